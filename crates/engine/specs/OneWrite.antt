-- A transaction of one write that is no session's.
use Rattle.std.specs.Prelude.{◌≡◌, ℕ, ◌+◌, List, [], ◌∷◌, Option}
use Rattle.site.specs.State.{State}
use Rattle.record_model.specs.State.{Content}
use Rattle.log_records.specs.Log.{Entry}
use Rattle.log_records.specs.Unfinished.{owed}
use Rattle.log_laws.specs.Follow.{IsActive, IsFresh}
use Rattle.checkpoint.specs.declared.master.Master.{Master}
use Rattle.image_meaning.specs.Meaning.{master_of}
use Rattle.redo_undo.specs.declared.store.TransactionStore.{TransactionStore}
use Rattle.redo_undo.specs.Stores.{Represents}
use Rattle.redo_undo.specs.StoreRollback.{ConcernsOnly}

-- Behind these records a new transaction has written one record of the table, and isn't committed yet.
pub record HasOneWrite (store : TransactionStore) (site : State) (newest : Option Master) (records : List Entry)
    (table : List Content) (commits txn number : ℕ) (after : Content) : Type 0 where
  pub log : List Entry
  pub fresh : IsFresh txn records
  pub concerns : ConcernsOnly newest txn records log
  pub holds : Represents store site newest log table commits
  pub last : ℕ
  pub active : IsActive (master_of newest) log txn last ((number, after) ∷ [])
  pub owes : owed log ≡ owed records + 2
