-- What the calls of a store say, each as one record with the call's result as its index.
use Rattle.std.specs.Prelude.{◌≡◌, ℕ, ◌+◌, ◌≤◌, IsTrue, Result, OnOk, IfErr, IsErrOf}
use Rattle.site.specs.declared.outside.Dev.{Dev}
use Rattle.site.specs.declared.outside.Stop.{Stop}
use Rattle.site.specs.declared.outside.Stop.TheVariants.{Worn}
use Rattle.site.specs.State.{State as Site, Snapshot, IsQuiet}
use Rattle.site.specs.Work.{Calls}
use Rattle.sealed_ring.specs.Ring.{hi_of}
use Rattle.image_changes.specs.Rings.{master_shape}
use Rattle.flash_cache.specs.Representation as flash_cache
use Rattle.log_store.specs.Representation as log_store
use Rattle.log_store.specs.Representation.{end_of}
use Rattle.page_store.specs.Stopping.{MayStop}
use Rattle.redo_laws.specs.Calls.{Ends}
use Rattle.redo_laws.specs.Holding.{blocks_to, IsSpent}
use Rattle.redo_laws.specs.Numbers.{SkipsNone}
use Rattle.redo_undo.specs.declared.store.TransactionStore.{TransactionStore}
use Rattle.redo_undo.specs.Stores.{MayWork, sizes_of}

-- Over an honest site, whatever stands there: the next block, master unit and segment are those of the content.
pub record AreNext (store : TransactionStore) (site : Site) : Type 0 where
  pub block : log_store.IsNext store.log site
  pub master : store.masters.hi ≡ hi_of master_shape site.image.log
  pub segment : flash_cache.IsNext store.pages.flash site

-- A call on an honest site, whatever stands there: so they are again, and a device is worn only where a ring of it is
-- spent.
pub record KeepsNext {T : Type 0} (result : Result T Stop) (old new : TransactionStore)
    (before now : Site) : Type 0 where
  pub next : AreNext old before → OnOk result (AreNext new now)
  pub worn : AreNext old before → (dev : Dev) → IsErrOf result (Worn dev) → IsSpent dev (sizes_of old) now.image

-- A call of log and pages, on every site: it logs so many records, and leaves all else that counts room as it is.
pub record KeepsInvariant {T : Type 0} (result : Result T Stop) (old new : TransactionStore) (before now : Site)
    (records : ℕ) : Type 0 where
  pub calls : Calls result before now
  pub going : OnOk result (MayWork new now)
  pub made : OnOk result (new.made ≡ old.made + records)
  pub blocks : OnOk result (blocks_to new.log ≤ blocks_to old.log + records)
  pub rises : OnOk result (end_of old.log ≤ end_of new.log)
  pub kept : new.log.kept ≡ old.log.kept
  pub sizes : sizes_of new ≡ sizes_of old
  pub stops : IfErr result (λ stop. MayStop stop)
  pub next : IsTrue before.honest → KeepsNext result old new before now

-- The same call on an honest site that log and pages fit: it ends so, and no ring skips a number.
pub record Keeps {T : Type 0} (result : Result T Stop) (old new : TransactionStore) (before now : Site)
    (P : Snapshot → Type 0)
    (records checkpoints : ℕ) : Type 0 where
  pub ends : Ends result (sizes_of old) before now P
  pub open ends use *
  pub numbers : IsQuiet before → SkipsNone result (sizes_of old) old.log new.log before now records checkpoints
