-- What the judges of the first rule say.
use Rattle.std.specs.Prelude.{◌≡◌, ℕ, ◌*◌, ◌/◌, ◌%◌, take, drop, Option, Some, None, Result, Ok, Err}
use Rattle.site.specs.declared.geometry.Geometry.{Geometry}
use Rattle.site.specs.State.{State, Image}
use Rattle.sealed_ring.specs.Ready.{IsUsable, Matches}
use Rattle.image_changes.specs.Rings.{master_shape, log_shape, group_shape, segment_shape}
use Rattle.checkpoint.specs.declared.master.Master.{Master}
use Rattle.checkpoint.specs.Newest.{HasMaster}
use Rattle.tail_rebuild.specs.Standing.{group_on, segment_on}
use Rattle.image_form.specs.declared.place.Place.{Place}
use Rattle.image_form.specs.declared.rings.Rings.{Rings}
use Rattle.image_form.specs.Octets.{HasSizes, AreRings}

-- these are the sizes; or no sizes are
abbrev pub SizesAre : Option Geometry → Image → Type 0
SizesAre (Some g) image = HasSizes g image
SizesAre None image = (g : Geometry) → HasSizes g image → ⊥

-- over every site: the four rings lie on its devices
pub record MayRead (g : Geometry) (rings : Rings) (site : State) : Type 0 where
  pub sizes : HasSizes g site.image
  pub masters : IsUsable rings.masters site
  pub blocks : IsUsable rings.blocks site
  pub groups : IsUsable rings.groups site
  pub segments : IsUsable rings.segments site
  pub masters_shape : rings.masters.shape ≡ master_shape
  pub blocks_shape : rings.blocks.shape ≡ log_shape g
  pub groups_shape : rings.groups.shape ≡ group_shape g
  pub segments_shape : rings.segments.shape ≡ segment_shape g

-- the rings are those that stand there
pub record AreFound (rings : Rings) (site : State) : Type 0 where
  pub masters : Matches rings.masters site
  pub blocks : Matches rings.blocks site
  pub groups : Matches rings.groups site
  pub segments : Matches rings.segments site

-- these are the four rings, each of the form; or one isn't
abbrev pub RingsAre : Geometry → Result Rings Place → State → Type 0
RingsAre g (Ok rings) site = AreRings g site.image × AreFound rings site
RingsAre g (Err place) site = AreRings g site.image → ⊥

-- its unit is that of this master; or it is that of none
abbrev pub MasterIs : Option Master → Image → Type 0
MasterIs (Some m) image = HasMaster image m
MasterIs None image = (m : Master) → HasMaster image m → ⊥

-- the octets of a group's heads are those that its segment has at the group's place
abbrev pub AreHeadsSaved : Geometry → Image → ℕ → Type 0
AreHeadsSaved g image n = take 128 (group_on g image n) ≡ take 128 (drop (128 * (n % 4)) (segment_on g image (n / 4)))
