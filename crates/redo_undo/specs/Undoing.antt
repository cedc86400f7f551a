-- What undoing an Update leaves.
use Rattle.std.specs.Prelude.{◌≡◌, ℕ, ◌+◌, ◌*◌, ◌≤◌, ◌<◌, List, [], ◌∷◌, ◌++◌, true, Option, Some}
use Rattle.std.specs.Prelude.{nat_eq, if◌then◌else◌}
use Rattle.site.specs.declared.geometry.Geometry.{Geometry}
use Rattle.site.specs.State.{State, Image}
use Rattle.record_model.specs.State.{Content}
use Rattle.log_records.specs.declared.log_record.LogRecord.{LogRecord}
use Rattle.log_records.specs.declared.log_record.LogRecord.TheVariants.{Update, Clr}
use Rattle.log_records.specs.Log.{Entry, txn_of, number_of, before_of}
use Rattle.log_records.specs.Unfinished.{is_clr, owed}
use Rattle.log_laws.specs.Follow.{Follows}
use Rattle.log_laws.specs.Analysis.{Unfinished, IsUnfinished, after_clr, past_clr}
use Rattle.log_laws.specs.UndoLaws.{goes_back}
use Rattle.log_records.specs.Sound.{AreOrderly}
use Rattle.log_store.specs.declared.store.LogStore.{LogStore}
use Rattle.page_store.specs.declared.store.PageStore.{PageStore}
use Rattle.checkpoint.specs.declared.master.Master.{Master}
use Rattle.image_meaning.specs.Meaning.{master_of, versions_on}
use Rattle.redo_undo.specs.declared.undo.UndoCursor.{UndoCursor}
use Rattle.redo_undo.specs.declared.undo.Wanted.{Wanted}
use Rattle.redo_undo.specs.declared.undo.Step.{Step}
use Rattle.redo_undo.specs.declared.undo.Step.TheVariants.{Compensate, Pass}
use Rattle.redo_laws.specs.Running.{History}
use Rattle.redo_laws.specs.Holding.{Represents}

-- where undoing an unfinished transaction stands
pub record IsAt (at : UndoCursor) (x : Unfinished) : Type 0 where
  pub txn : at.txn ≡ x.txn
  pub last : at.last ≡ x.last
  pub next : at.next ≡ x.next

-- how many CLRs a step back has logged: one where the transaction has another last record then
abbrev pub clrs_logged : UndoCursor → UndoCursor → ℕ
clrs_logged before now = if nat_eq now.last before.last then 0 else 1

-- What undoing does with a record at the LSN where it goes on, of so many pages: the record is one of its transaction.
-- An Update is compensated, and undoing goes on at the record before it; of a CLR it goes on at the record that this
-- names. Both stand before it.
abbrev pub IsStepOf : UndoCursor → ℕ → LogRecord → Step → Type 0
IsStepOf at pages (Update txn prev page slot before after) (Compensate w) = (txn ≡ at.txn) × (prev < at.next)
    × (page < pages) × (w ≡ record { prev = prev; page = page; slot = slot; before = before })
IsStepOf at pages (Clr txn prev undo_next page slot after) (Pass next) = (txn ≡ at.txn) × (undo_next < at.next)
    × (next ≡ undo_next)
IsStepOf at pages rec step = ⊥

-- the Update that is undone next: it is on a page that exists, and its CLR may follow
pub record IsWanted (g : Geometry) (image : Image) (newest : Option Master) (records : List Entry) (x : Unfinished)
    (u : Entry) (w : Wanted) : Type 0 where
  pub number : number_of u.rec ≡ Some (32 * w.page + w.slot)
  pub before : before_of u.rec ≡ w.before
  pub back : goes_back u.rec ≡ w.prev
  pub late : x.txn ≤ w.prev
  pub early : w.prev < x.next
  pub exists : w.page < g.pages
  pub follows : (lsn : ℕ) → Follows (master_of newest) (versions_on g image) records
      (record { lsn = lsn; rec = Clr x.txn x.last w.prev w.page w.slot w.before })

-- a CLR of the transaction was logged, and its page has what stood there before
pub record Undone (log : LogStore) (pages : PageStore) (site : State) (newest : Option Master) (records : List Entry)
    (history : History) (x : Unfinished) (now : UndoCursor) : Type 0 where
  pub e : Entry
  pub page : ℕ
  pub slot : ℕ
  pub before : Content
  pub e_is : e ≡ record { lsn = now.last; rec = Clr x.txn x.last now.next page slot before }
  pub clr : is_clr e.rec ≡ true
  pub own : txn_of e ≡ x.txn
  pub holds : Represents log pages site newest (records ++ e ∷ []) history
  pub left : IsUnfinished (records ++ e ∷ []) (after_clr x e)
  pub at : IsAt now (after_clr x e)
  pub later : x.last < now.last
  pub fewer : (after_clr x e).remaining + 1 ≡ x.remaining
  pub owes : owed records ≡ owed (records ++ e ∷ []) + 1
  pub orderly : AreOrderly records → AreOrderly (records ++ e ∷ [])

-- a CLR of the transaction was read, and undoing goes on where that says
pub record Passed (log log' : LogStore) (pages : PageStore) (site : State) (newest : Option Master)
    (records : List Entry) (history : History) (x : Unfinished) (c : Entry)
    (now : UndoCursor) : Type 0 where
  pub same : log' ≡ log
  pub holds : Represents log' pages site newest records history
  pub left : IsUnfinished records (past_clr x c)
  pub at : IsAt now (past_clr x c)
