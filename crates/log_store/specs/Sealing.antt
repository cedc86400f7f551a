-- What the calls say alike that seal the tail, where that is wanted.
use Rattle.std.specs.Prelude.{◌≡◌, ◌⊎◌, ◌↔◌, ◌+◌, ◌*◌, ◌^◌, ◌≤◌, Bool, true, if◌then◌else◌, IsTrue, length}
use Rattle.std.specs.Prelude.{Result, OnOk, OnErr, IfErr, IsErrOf}
use Rattle.site.specs.declared.outside.Dev.TheVariants.{Log}
use Rattle.site.specs.declared.outside.Stop.{Stop}
use Rattle.site.specs.declared.outside.Stop.TheVariants.{Device, Worn}
use Rattle.site.specs.State.{State, IsQuiet}
use Rattle.site.specs.Calls.{Preserves, SameReads, FaultRose}
use Rattle.site.specs.Faults.{WorkFaults}
use Rattle.site.specs.Moments.{LeavesOnly, ChangesOnly}
use Rattle.sealed_ring.specs.Ring.{SameOutside}
use Rattle.image_changes.specs.Rings.{log_shape}
use Rattle.image_changes.specs.Changes.{Reaches}
use Rattle.image_changes.specs.Reached.{LeavesFront}
use Rattle.log_store.specs.declared.store.LogStore.{LogStore}
use Rattle.log_store.specs.LogList.{LogList, changes_if}
use Rattle.log_store.specs.Representation.{Invariant, Matches, Finds, Represents, LeavesLog, KeepsBeside, KeepsNext}

-- the store: where the tail was to be sealed it has one block more
pub record KeepsStore {T : Type 0} (result : Result T Stop) (sealing : Bool) (old new : LogStore)
    (before now : State) : Type 0 where
  -- of an honest site
  pub finds : Finds old before → OnOk result (Finds new now)
  pub fits : Matches old before → OnOk result (Matches new now)
  pub changes : IsTrue before.honest → ChangesOnly Log before now
  pub quiet : IsTrue before.honest → IsQuiet before → OnOk result (IsQuiet now)
  -- of every site
  pub next : OnOk result (new.ring.hi ≡ (if sealing then old.ring.hi + 1 else old.ring.hi))
  pub at_most_one : (old.ring.hi ≤ new.ring.hi) × (new.ring.hi ≤ old.ring.hi + 1)
  pub ended : OnOk result (new.ring.ended ≡ old.ring.ended)
  pub err : OnErr result (new.ring.ended ≡ true)
  pub kept : new.kept ≡ old.kept
  pub geometry : new.geometry ≡ old.geometry
  pub preserves : Preserves before now
  pub faults : WorkFaults result before now
  pub reads : SameReads before now
  -- when each answer comes
  pub worn : IsErrOf result (Worn Log) ↔ ((sealing ≡ true) × (old.ring.hi ≡ 2 ^ 40))
  pub device : IsErrOf result (Device Log) → FaultRose Log before now
  pub stops : IfErr result (λ stop. (stop ≡ Device Log) ⊎ (stop ≡ Worn Log))

-- The same, and what that means for the log, and for what a crash leaves. What is found and left is said of an honest
-- site that the store fits, or whose log it found while ranges of the device are loose.
pub record SealsTail {T : Type 0} (result : Result T Stop) (sealing : Bool) (old new : LogStore)
    (before now : State) : Type 0 where
  pub keeps : KeepsStore result sealing old new before now
  pub open keeps use *
  pub any_moment : (log : LogList) → Matches old before → Represents old before.image log
      → LeavesOnly before now (LeavesLog old.geometry sealing log before.told)
  pub front : (log : LogList) → Matches old before → Represents old before.image log → IsQuiet before
      → LeavesFront old.geometry (changes_if sealing log) before now
  pub reaches : (log : LogList) → Finds old before → Represents old before.image log
      → OnOk result (Reaches old.geometry (changes_if sealing log) before.image now.image)
  pub next_block : IsTrue before.honest → KeepsNext result old new before now
  pub outside : IsTrue before.honest
      → OnOk result (SameOutside (log_shape old.geometry) before.image.log now.image.log)
  pub beside : Matches old before → LeavesOnly before now (KeepsBeside old.geometry before.image)
  pub device_calls : IsTrue before.honest
      → OnOk result (length now.past + 5 * old.ring.hi ≡ length before.past + 5 * new.ring.hi)
  pub going : Invariant new now
