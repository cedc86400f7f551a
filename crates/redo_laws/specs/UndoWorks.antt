-- What undo asks of the page cache, Update by Update.
use Rattle.std.specs.Prelude.{◌≡◌, ℕ, true, List, ◌++◌, filter_map, reverse, Some, Option}
use Rattle.site.specs.State.{State}
use Rattle.record_model.specs.Touches.{CacheOp}
use Rattle.log_records.specs.Log.{Entry, txn_of, last_where}
use Rattle.log_records.specs.Unfinished.{pending}
use Rattle.log_records.specs.Restart.{undo_touch}
use Rattle.log_store.specs.declared.store.LogStore.{LogStore}
use Rattle.page_store.specs.declared.store.PageStore.{PageStore}
use Rattle.analysis.specs.declared.analysis.Analysis.{Analysis}
use Rattle.checkpoint.specs.declared.master.Master.{Master}
use Rattle.redo_laws.specs.Running.{History}
use Rattle.redo_laws.specs.UndoingAll.{UndoesSome}

-- undoing these Updates, the first one first
abbrev pub works_of : List Entry → List CacheOp
works_of updates = filter_map undo_touch updates

-- an Update is the last of all that remain: it is of this transaction, and has this LSN
pub record IsLastAt (records : List Entry) (txn lsn : ℕ) (u : Entry) : Type 0 where
  pub last : last_where (λ v. true) (pending records) ≡ Some u
  pub own : txn_of u ≡ txn
  pub at : u.lsn ≡ lsn

-- Some of what is unfinished is undone. Of all Updates that remained these don't any more, the last ones.
pub record UndoesUpdates (log : LogStore) (pages : PageStore) (site : State) (newest : Option Master)
    (records : List Entry) (history : History) (found : Analysis) (known : ℕ)
    (updates : List Entry) : Type 0 where
  pub some : UndoesSome log pages site newest records history found known
  pub left : reverse (pending records) ≡ updates ++ reverse (pending (records ++ some.more))
