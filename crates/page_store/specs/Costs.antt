-- How many calls are made: those of the units that are appended, and those that stage frames.
use Rattle.std.specs.Prelude.{◌≡◌, ℕ, ◌+◌, ◌*◌, ◌≤◌, ◌<◌, ◌==◌, not, Bool, true, List, [], ◌∷◌, length, if◌then◌else◌}
use Rattle.std.specs.List.{AllByRecursion}
use Rattle.site.specs.declared.geometry.Geometry.{Geometry}
use Rattle.site.specs.State.{State, Image}
use Rattle.site.specs.Moments.{works_in}
use Rattle.sealed_ring.specs.Ring.{hi_of}
use Rattle.image_changes.specs.Rings.{log_shape, master_shape, group_shape, segment_shape}
pub use Rattle.stage_out.specs.Staged.{unsynced_in}
use Rattle.second_chance.specs.Machine.{Staged}

-- what the units took that the rings have had: five calls each, three writes and two syncs
abbrev pub cost_of : Geometry → Image → ℕ
cost_of g image =
    5 * (hi_of (log_shape g) image.log + hi_of master_shape image.log
    + (hi_of (group_shape g) image.flash + hi_of (segment_shape g) image.flash))

-- Writes and syncs are those that find something of the disk loose, and those of the units that were appended; tells
-- are no more than octets told.
pub record CallsForUnits (g : Geometry) (old new : State) : Type 0 where
  pub works : works_in new.past + (cost_of g old.image + unsynced_in old.past)
      ≡ works_in old.past + (cost_of g new.image + unsynced_in new.past)
  pub tells : length new.past + (works_in old.past + length old.told)
      ≤ length old.past + (works_in new.past + length new.told)

-- The calls that stage frames: a write for each, and a sync behind the last one of each group.
abbrev pub ends_group : Staged → List Staged → Bool
ends_group f [] = true
ends_group f (next ∷ later) = not (next.group == f.group)

abbrev pub staging_calls : List Staged → ℕ
staging_calls [] = 0
staging_calls (f ∷ later) = (if ends_group f later then 2 else 1) + staging_calls later

-- So many find something of the disk loose. The frames are of groups from one number up to another, at which the queue
-- begins before and behind these calls.
pub record CallsForStaged (staged : List Staged) (first next : ℕ) (old new : State) : Type 0 where
  pub calls : unsynced_in new.past ≡ unsynced_in old.past + staging_calls staged
  pub rises : first ≤ next
  pub within : AllByRecursion (λ f. (first ≤ f.group) × (f.group < next)) staged
