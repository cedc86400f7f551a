-- Undoing all unfinished transactions.
use Rattle.std.specs.Prelude.{◌≡◌, ℕ, ◌+◌, ◌≤◌, ◌<◌, true, false, List, [], ◌++◌, length, Some, Option}
use Rattle.std.specs.List.{AllByRecursion}
use Rattle.site.specs.State.{State}
use Rattle.log_records.specs.Log.{Entry, txn_of, is_loser, last_where}
use Rattle.log_records.specs.Unfinished.{is_clr, left_open, pending, owed}
use Rattle.log_records.specs.Sound.{InTurn, AreOrderly}
use Rattle.log_store.specs.declared.store.LogStore.{LogStore}
use Rattle.page_store.specs.declared.store.PageStore.{PageStore}
use Rattle.checkpoint.specs.declared.master.Master.{Master}
use Rattle.analysis.specs.declared.analysis.Analysis.{Analysis}
use Rattle.analysis.specs.declared.analysis.Loser.{Loser}
use Rattle.analysis.specs.Open.{Open, found_in}
use Rattle.analysis.specs.Table.{listed}
use Rattle.analysis.specs.Read.{IsTable, loser_of}
use Rattle.analysis.specs.Read as analysis_read
use Rattle.redo_laws.specs.Holding.{Represents}
use Rattle.redo_laws.specs.Running.{History}

-- what a list says of a transaction, as callers see it
pub record IsOf (table : List Open) (loser : Loser) : Type 0 where
  pub x : Open
  pub there : found_in table loser.txn ≡ Some x
  pub same : loser ≡ loser_of x

-- of every log: analysis hears of a record that undo logs, and counts no commit by it
pub record IsHeard (old new : Analysis) : Type 0 where
  pub going : analysis_read.Invariant new
  pub commits : new.commits ≡ old.commits

-- of each transaction an Update remains
abbrev pub Remain : List Open → Type 0
Remain table = AllByRecursion (λ x. 0 < length x.updates) table

-- nothing of an active transaction remains
pub record HasNone (table : List Open) (t : ℕ) : Type 0 where
  pub x : Open
  pub there : found_in table t ≡ Some x
  pub none : x.updates ≡ []

-- each record stands at an LSN up to this one
abbrev pub AreUpTo : ℕ → List Entry → Type 0
AreUpTo known records = AllByRecursion (λ e. e.lsn ≤ known) records

-- Of an honest site: log and pages have these records, analysis knows what they leave unfinished, and no record stands
-- behind an LSN.
pub record IsUndoing (log : LogStore) (pages : PageStore) (site : State) (newest : Option Master) (records : List Entry)
    (history : History) (found : Analysis) (known : ℕ) : Type 0 where
  pub holds : Represents log pages site newest records history
  pub analysis : IsTable [] records (listed found.table)
  pub up_to : AreUpTo known records

-- the last of all Updates that remain is one of this transaction
abbrev pub IsGreatest : List Entry → ℕ → Type 0
IsGreatest records t = (u : Entry) × (last_where (λ v. true) (pending records) ≡ Some u) × (txn_of u ≡ t)

-- what undo logs next: a CLR only where no transaction waits for its End, and then of the last of all Updates that
-- remain
pub record IsNextUndo (earlier : List Entry) (e : Entry) : Type 0 where
  pub ends_first : is_clr e.rec ≡ true → (t : ℕ) → is_loser earlier t ≡ true → 0 < length (left_open earlier t)
  pub greatest : is_clr e.rec ≡ true → IsGreatest earlier (txn_of e)

-- Some of what is unfinished is undone: the log goes on by these records, in turn, and each takes away one that undo
-- owes.
pub record UndoesSome (log : LogStore) (pages : PageStore) (site : State) (newest : Option Master)
    (records : List Entry) (history : History) (found : Analysis) (known : ℕ) : Type 0 where
  pub more : List Entry
  pub now : IsUndoing log pages site newest (records ++ more) history found known
  pub in_turn : InTurn IsNextUndo records more
  pub count : length more + owed (records ++ more) ≡ owed records
  pub orderly : AreOrderly records → AreOrderly (records ++ more)

-- All unfinished transactions are undone: behind their CLRs and Ends the log leaves none unfinished.
pub record UndoesAll (log : LogStore) (pages : PageStore) (site : State) (newest : Option Master) (records : List Entry)
    (history : History) : Type 0 where
  pub more : List Entry
  pub holds : Represents log pages site newest (records ++ more) history
  pub none : (t : ℕ) → is_loser (records ++ more) t ≡ false
  pub count : length more ≡ owed records
  pub in_turn : InTurn IsNextUndo records more
  pub orderly : AreOrderly records → AreOrderly (records ++ more)
