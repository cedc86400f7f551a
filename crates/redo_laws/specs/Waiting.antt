-- What a crash leaves where commits wait for their seal.
use Rattle.std.specs.Prelude.{◌≡◌, ℕ, ◌≤◌, List, Option}
use Rattle.site.specs.declared.geometry.Geometry.{Geometry}
use Rattle.site.specs.State.{Snapshot}
use Rattle.checkpoint.specs.declared.master.Master.{Master}
use Rattle.image_meaning.specs.Meaning.{StandsUnder, StandsFor}
use Rattle.redo_laws.specs.Running.{History}

-- Nothing was told, and the devices stand for the table after so many commits, none below the floor, under a newest
-- master.
pub record LeavesSomeUnder (newest : Option Master) (g : Geometry) (history : History) (so_far : List ℕ)
    (snapshot : Snapshot) : Type 0 where
  pub told : snapshot.told ≡ so_far
  pub count : ℕ
  pub from_floor : history.floor ≤ count
  pub within : count ≤ history.commits
  pub stands : StandsUnder newest g snapshot.image (history.tables count) count

-- whatever the newest master is
pub record LeavesSome (g : Geometry) (history : History) (so_far : List ℕ) (snapshot : Snapshot) : Type 0 where
  pub told : snapshot.told ≡ so_far
  pub count : ℕ
  pub from_floor : history.floor ≤ count
  pub within : count ≤ history.commits
  pub stands : StandsFor g snapshot.image (history.tables count) count
