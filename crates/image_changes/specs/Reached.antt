-- Which changes a crash leaves.
use Rattle.std.specs.Prelude.{◌≡◌, List, ◌++◌}
use Rattle.site.specs.declared.geometry.Geometry.{Geometry}
use Rattle.site.specs.State.{State, Snapshot}
use Rattle.site.specs.Moments.{LeavesOnly}
use Rattle.image_changes.specs.Changes.{Change, Reaches}

-- nothing was told since then, and the image of then leads to the one that is left by changes that may have been made
pub record IsReached (g : Geometry) (may : List Change → Type 0) (old : State) (snapshot : Snapshot) : Type 0 where
  pub told : snapshot.told ≡ old.told
  pub changes : List Change
  pub made : may changes
  pub reaches : Reaches g changes old.image snapshot.image

-- a crash at any moment from old to new leaves such a snapshot
abbrev pub LeavesReached : Geometry → (List Change → Type 0) → State → State → Type 0
LeavesReached g may old new = LeavesOnly old new (IsReached g may old)

-- the first ones of all changes of a call: none, some, or all
abbrev pub IsFrontOf : List Change → List Change → Type 0
IsFrontOf all changes = (left : List Change) × (all ≡ changes ++ left)

-- a crash leaves the first ones of these changes
abbrev pub LeavesFront : Geometry → List Change → State → State → Type 0
LeavesFront g all old new = LeavesReached g (IsFrontOf all) old new
