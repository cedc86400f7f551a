-- What undoing a transaction leaves.
use Rattle.std.specs.Prelude.{◌≡◌, ◌≢◌, ℕ, ◌+◌, ◌≤◌, true, false, List, [], ◌∷◌, ◌++◌, length, drop, min}
use Rattle.std.specs.Prelude.{Option}
use Rattle.std.specs.List.{AllByRecursion}
use Rattle.site.specs.State.{State}
use Rattle.record_model.specs.State.{Content}
use Rattle.log_records.specs.declared.log_record.LogRecord.TheVariants.{End}
use Rattle.log_records.specs.Log.{Entry, txn_of, is_loser, entries_of}
use Rattle.log_records.specs.Unfinished.{is_clr, left_open, owed}
use Rattle.log_laws.specs.Analysis.{Unfinished, IsUnfinished}
use Rattle.log_records.specs.Sound.{AreOrderly, last_lsn}
use Rattle.log_store.specs.declared.store.LogStore.{LogStore}
use Rattle.page_store.specs.declared.store.PageStore.{PageStore}
use Rattle.checkpoint.specs.declared.master.Master.{Master}
use Rattle.redo_undo.specs.declared.undo.UndoCursor.{UndoCursor}
use Rattle.redo_undo.specs.Undoing.{IsAt}
use Rattle.redo_laws.specs.Running.{History}
use Rattle.redo_laws.specs.Holding.{Represents, blocks_to}

-- these are CLRs of a transaction
abbrev pub AreClrsOf : ℕ → List Entry → Type 0
AreClrsOf txn more = AllByRecursion (λ e. (is_clr e.rec ≡ true) × (txn_of e ≡ txn)) more

-- Of an unfinished transaction some Updates are compensated, the last ones first: the log has their CLRs, and the pages
-- show them. From so many blocks on it took at most one for each CLR.
pub record Compensates (log : LogStore) (pages : PageStore) (site : State) (newest : Option Master)
    (records : List Entry) (history : History) (txn blocks : ℕ) (now : UndoCursor) : Type 0 where
  pub clrs : List Entry
  pub own : AreClrsOf txn clrs
  pub holds : Represents log pages site newest (records ++ clrs) history
  pub x : Unfinished
  pub left : IsUnfinished (records ++ clrs) x
  pub at : IsAt now x
  pub same : x.txn ≡ txn
  pub count : length clrs + x.remaining ≡ length (left_open records txn)
  pub owes : owed (records ++ clrs) + length clrs ≡ owed records
  pub few : blocks_to log ≤ blocks + length clrs
  pub orderly : AreOrderly records → AreOrderly (records ++ clrs)

-- So many of its Updates are, the last ones that are left, or all where fewer are.
pub record CompensatesUpTo (log : LogStore) (pages : PageStore) (site : State) (newest : Option Master)
    (records : List Entry) (history : History) (txn count blocks : ℕ) (now : UndoCursor) : Type 0 where
  pub made : Compensates log pages site newest records history txn blocks now
  pub many : length made.clrs ≡ min count (length (left_open records txn))

-- The last Updates of a transaction that are left are undone, so many: the log has a CLR for each, the last of them at
-- this LSN where there is one, the pages show that, and the others are left. It is unfinished as before.
pub record UndoesLast (log : LogStore) (pages : PageStore) (site : State) (newest : Option Master)
    (records : List Entry) (history : History) (txn count : ℕ) (last : ℕ) : Type 0 where
  pub clrs : List Entry
  pub own : AreClrsOf txn clrs
  pub many : length clrs ≡ count
  pub holds : Represents log pages site newest (records ++ clrs) history
  pub loser : is_loser (records ++ clrs) txn ≡ true
  pub last_is : last ≡ last_lsn (entries_of txn (records ++ clrs))
  pub left : left_open (records ++ clrs) txn ≡ drop count (left_open records txn)
  pub owes : owed (records ++ clrs) + count ≡ owed records
  pub orderly : AreOrderly records → AreOrderly (records ++ clrs)

-- A transaction is undone as a whole: behind its CLRs the log has its End, and the pages show that. It is unfinished no
-- more, and all others are as they were.
pub record RollsBack (log : LogStore) (pages : PageStore) (site : State) (newest : Option Master) (records : List Entry)
    (history : History) (txn : ℕ) : Type 0 where
  pub clrs : List Entry
  pub lsn : ℕ
  pub own : AreClrsOf txn clrs
  pub count : length clrs ≡ length (left_open records txn)
  pub owes : owed ((records ++ clrs) ++ record { lsn = lsn; rec = End txn } ∷ []) + (length clrs + 1) ≡ owed records
  pub holds : Represents log pages site newest ((records ++ clrs) ++ record { lsn = lsn; rec = End txn } ∷ [])
      history
  pub orderly : AreOrderly records → AreOrderly ((records ++ clrs) ++ record { lsn = lsn; rec = End txn } ∷ [])
  pub closed : is_loser ((records ++ clrs) ++ record { lsn = lsn; rec = End txn } ∷ []) txn ≡ false
  pub others : (t : ℕ) → t ≢ txn
      → is_loser ((records ++ clrs) ++ record { lsn = lsn; rec = End txn } ∷ []) t ≡ is_loser records t
