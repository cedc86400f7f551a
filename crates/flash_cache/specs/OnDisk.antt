-- What the disk has of the frames that the machine stages.
use Rattle.std.specs.Prelude.{◌≡◌, ℕ, Bool, List, ◌∷◌, ◌++◌, map, Some, slice_get}
use Rattle.std.specs.List.{Contains}
use Rattle.site.specs.declared.geometry.Geometry.{Geometry}
use Rattle.site.specs.State.{State, Image, Moment}
use Rattle.site.specs.Moments.{Leaves, since}
use Rattle.sealed_ring.specs.Ring.{IsLive, hi_of}
use Rattle.image_changes.specs.Rings.{group_shape}
use Rattle.frame_group.specs.Groups.{frames_in}
use Rattle.second_chance.specs.Machine.{Staged}
use Rattle.flash_cache.specs.Representation.{disk_on, group_on}

abbrev pub pages_staged : List Staged → List ℕ
pages_staged staged = map (λ f. f.page) staged

-- some moment within the calls from old to new has Q
pub record SomeMoment (old new : State) (Q : Moment → Type 0) : Type 0 where
  pub moment : Moment
  pub within : Contains (since old new) moment
  pub has : Q moment

-- the group with the frame's number is live on flash, and has a frame of its page, with these octets, at its place
pub record HasFrameAt (g : Geometry) (f : Staged) (octets : List ℕ) (image : Image) : Type 0 where
  pub live : IsLive (group_shape g) (hi_of (group_shape g) image.flash) f.group
  pub dirty : Bool
  pub is : slice_get (frames_in (group_on g image f.group)) f.index
      ≡ Some (record { page = f.page; dirty = dirty; octets = octets })

-- the disk has of the frame's page what the frame had at some moment within these calls, whatever a crash left of it
abbrev pub IsOnDisk : Geometry → Staged → State → State → Type 0
IsOnDisk g f old new = SomeMoment old new (Leaves (λ s. HasFrameAt g f (disk_on new.image f.page) s.image))

-- of these frames each that no other of its page stands behind is on the disk
abbrev pub HasLastStaged : Geometry → List Staged → State → State → Type 0
HasLastStaged g staged old new =
    (before later : List Staged) (f : Staged) → staged ≡ before ++ f ∷ later
    → (Contains (pages_staged later) f.page → ⊥) → IsOnDisk g f old new
