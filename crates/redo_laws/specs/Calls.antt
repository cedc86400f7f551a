-- What the calls on log and pages say, each as one record with the call's result as its index.
use Rattle.std.specs.Prelude.{◌≡◌, ◌≢◌, ◌⊎◌, ◌+◌, ◌≤◌, Result, IsTrue, OnOk, IfErr, IsErrOf, ℕ}
use Rattle.site.specs.declared.geometry.Geometry.{Geometry}
use Rattle.site.specs.declared.outside.Dev.{Dev}
use Rattle.site.specs.declared.outside.Dev.TheVariants.{Log, Flash}
use Rattle.site.specs.declared.outside.Stop.{Stop}
use Rattle.site.specs.declared.outside.Stop.TheVariants.{Device, Worn, Foreign}
use Rattle.site.specs.State.{State, Snapshot, IsQuiet, reads_of}
use Rattle.site.specs.Calls.{Preserves, IsUnchanged, SameReads, FaultRose}
use Rattle.site.specs.Faults.{WorkFaults}
use Rattle.site.specs.Work.{Calls}
use Rattle.site.specs.Moments.{LeavesOnly, ChangesOnly}
use Rattle.image_changes.specs.Rings.{KeepsUnits, master_shape}
use Rattle.flash_cache.specs.Representation.{IsWorn}
use Rattle.log_store.specs.declared.store.LogStore.{LogStore}
use Rattle.log_store.specs.Representation as log_store
use Rattle.log_store.specs.Representation.{end_of}
use Rattle.page_store.specs.declared.store.PageStore.{PageStore}
use Rattle.page_store.specs.Calls.{KeepsNext}
use Rattle.page_store.specs.Stopping.{MayStop}
use Rattle.redo_laws.specs.Holding.{Invariant, IsLogWorn, blocks_to}
use Rattle.redo_laws.specs.Numbers.{SkipsNone}

-- A call of log and pages, on every site: after Ok they may go on, and what sizes them stays.
pub record KeepsInvariant {T : Type 0} (result : Result T Stop) (old new : LogStore) (pages pages' : PageStore)
    (before now : State) : Type 0 where
  pub calls : Calls result before now
  pub going : OnOk result (Invariant new pages' now)
  pub rises : OnOk result (end_of old ≤ end_of new)
  pub kept : new.kept ≡ old.kept
  pub log_geometry : new.geometry ≡ old.geometry
  pub geometry : pages'.flash.geometry ≡ pages.flash.geometry
  pub size : pages'.pool.size ≡ pages.pool.size
  pub stops : IfErr result (λ stop. MayStop stop)
  pub next : IsTrue before.honest → KeepsNext result old new pages pages' before now

-- The same where it logs no record, and reads none.
pub record LogsNothing {T : Type 0} (result : Result T Stop) (old new : LogStore) (pages pages' : PageStore)
    (before now : State) : Type 0 where
  pub works : KeepsInvariant result old new pages pages' before now
  pub blocks : OnOk result (blocks_to new ≡ blocks_to old)
  pub hi : OnOk result (old.ring.hi ≤ new.ring.hi)
  pub log_reads : now.log_reads ≡ before.log_reads

-- A call of the log alone, on every site: nothing is read, no other device is written, and any pages that might go on
-- beside it still may.
pub record KeepsInvariantBeside {T : Type 0} (result : Result T Stop) (old new : LogStore)
    (before now : State) : Type 0 where
  pub calls : Calls result before now
  pub going : (pages : PageStore) → Invariant old pages before → OnOk result (Invariant new pages now)
  pub log_going : log_store.Invariant new now
  pub kept : new.kept ≡ old.kept
  pub geometry : new.geometry ≡ old.geometry
  pub reads : SameReads before now
  pub changes : IsTrue before.honest → ChangesOnly Log before now
  pub next : IsTrue before.honest → log_store.KeepsNext result old new before now

-- A call that reads one record of the log: nothing else is read, and an honest site stays as it is.
pub record ReadsOne {T : Type 0} (result : Result T Stop) (before now : State) : Type 0 where
  pub same : IsTrue before.honest → IsUnchanged before now
  pub preserves : Preserves before now
  pub log_reads : now.log_reads ≤ before.log_reads + 1
  pub others : (d : Dev) → d ≢ Log → reads_of d now ≡ reads_of d before
  pub device : IsErrOf result (Device Log) → FaultRose Log before now
  pub stops : IfErr result (λ stop. (stop ≡ Device Log) ⊎ (stop ≡ Foreign))
  pub faults : WorkFaults result before now

-- How a call ends on an honest site that stands for something: each crash meanwhile leaves P, and no error comes but
-- for its cause. A site on which no device failed is quiet, a ring is said to be worn only where it stands at its end,
-- and what is read is of the form.
pub record Ends {T : Type 0} (result : Result T Stop) (g : Geometry) (before now : State)
    (P : Snapshot → Type 0) : Type 0 where
  pub any_moment : IsQuiet before → LeavesOnly before now P
  pub quiet : IsQuiet before → IfErr result (λ stop. ((d : Dev) → stop ≢ Device d) → IsQuiet now)
  pub worn_log : IsErrOf result (Worn Log) → IsLogWorn g now.image
  pub worn : IsErrOf result (Worn Flash) → IsWorn g now.image
  pub readable : IsErrOf result Foreign → ⊥

-- Of an honest site on which log and pages hold together: it ends so, no ring skips a number, and but for checkpoints
-- no master is saved.
pub record Keeps {T : Type 0} (result : Result T Stop) (g : Geometry) (old new : LogStore) (before now : State)
    (P : Snapshot → Type 0) (records checkpoints : ℕ) : Type 0 where
  pub ends : Ends result g before now P
  pub open ends use *
  pub numbers : IsQuiet before → SkipsNone result g old new before now records checkpoints
  pub masters : checkpoints ≡ 0 → OnOk result (KeepsUnits master_shape before.image now.image)

-- The same of a call of the log alone, beside pages with which it holds together.
pub record KeepsBeside {T : Type 0} (result : Result T Stop) (old new : LogStore) (pages : PageStore)
    (before now : State) (P : Snapshot → Type 0) (records : ℕ) : Type 0 where
  pub any_moment : Invariant old pages before → IsQuiet before → LeavesOnly before now P
  pub numbers : Invariant old pages before → IsQuiet before →
      SkipsNone result old.geometry old new before now records 0
  pub quiet : IsQuiet before → IfErr result (λ stop. ((d : Dev) → stop ≢ Device d) → IsQuiet now)
  pub worn_log : IsErrOf result (Worn Log) → IsLogWorn old.geometry now.image
  pub masters : OnOk result (KeepsUnits master_shape before.image now.image)
