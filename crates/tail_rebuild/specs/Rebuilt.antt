-- What is found of the queue on flash at a start.
use Rattle.std.specs.Prelude.{◌≡◌, ◌+◌, ◌-◌, ◌*◌, ◌≤◌, false, List, length, map}
use Rattle.std.specs.List.{All}
use Rattle.site.specs.declared.geometry.Geometry.{Geometry}
use Rattle.site.specs.State.{State}
use Rattle.sealed_ring.specs.declared.ring.Ring.{Ring}
use Rattle.sealed_ring.specs.Ready.{IsUsable, Matches}
use Rattle.image_changes.specs.Rings.{group_shape, segment_shape}
use Rattle.frame_group.specs.Groups.{Frame, heads_of}
use Rattle.tail_rebuild.specs.declared.heads.Heads.{Heads}
use Rattle.tail_rebuild.specs.Listing.{AreHeadsIn}

-- of every site: the two rings may be used, and at most four groups aren't in segments
pub record AreRings (g : Geometry) (groups segments : Ring) (site : State) : Type 0 where
  pub groups_usable : IsUsable groups site
  pub segments_usable : IsUsable segments site
  pub groups_shape : groups.shape ≡ group_shape g
  pub segments_shape : segments.shape ≡ segment_shape g
  pub low : 4 * segments.hi ≤ groups.hi
  pub high : groups.hi ≤ 4 * segments.hi + 4

-- of every site: what was found may be gone on with
pub record MayStart (g : Geometry) (heads : Heads) (site : State) : Type 0 where
  pub rings : AreRings g heads.groups heads.segments site
  pub groups_go_on : heads.groups.ended ≡ false
  pub segments_go_on : heads.segments.ended ≡ false
  -- the heads of as many groups as can be, all of pages that exist
  pub count : (heads.groups.hi - (g.groups - 1)) + length heads.list ≡ heads.groups.hi
  pub are_heads : All (AreHeadsIn g.pages) heads.list

-- of an honest site whose flash has these groups: the two rings are the ones that stand there, and the heads those of
-- the groups
pub record Finds (heads : Heads) (groups : List (List Frame)) (site : State) : Type 0 where
  pub groups_fit : Matches heads.groups site
  pub segments_fit : Matches heads.segments site
  pub list : heads.list ≡ map heads_of groups
