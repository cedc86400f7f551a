-- Where undoing a transaction goes on.
use Rattle.std.specs.Prelude.{◌≡◌, ℕ, ◌<◌, ◌≤◌, ◌==◌, ◌||◌, true, List, [], ◌∷◌, find, Some}
use Rattle.log_records.specs.declared.log_record.LogRecord.{LogRecord}
use Rattle.log_records.specs.declared.log_record.LogRecord.TheVariants.{Update, Clr}
use Rattle.log_records.specs.Log.{Entry, txn_of, is_update}
use Rattle.log_records.specs.Unfinished.{is_clr}

-- the LSN of the first of these, and of the Begin where there is none
abbrev pub top_lsn : ℕ → List Entry → ℕ
top_lsn begin [] = begin
top_lsn begin (u ∷ updates) = u.lsn

-- where undoing goes on from a record: before an Update, and from a CLR where that one says
abbrev pub goes_back : LogRecord → ℕ
goes_back (Update txn prev page slot before after) = prev
goes_back (Clr txn prev undo_next page slot after) = undo_next
goes_back _ = 0

-- An Update or a CLR of a transaction stands at an LSN, and undoing goes on from it further back.
pub record IsLink (log : List Entry) (begin from : ℕ) (e : Entry) : Type 0 where
  pub lsn : e.lsn ≡ from
  pub found : find (λ x. x.lsn == from) log ≡ Some e
  pub own : txn_of e ≡ begin
  pub change : (is_update e.rec || is_clr e.rec) ≡ true
  pub late : begin ≤ goes_back e.rec
  pub falls : goes_back e.rec < from

-- The records that undoing a transaction reads from an LSN on, the last one first: each says where the next stands,
-- down to the Begin.
abbrev pub IsUndoChain : List Entry → ℕ → ℕ → List Entry → Type 0
IsUndoChain log begin from [] = from ≡ begin
IsUndoChain log begin from (e ∷ chain) = IsLink log begin from e × IsUndoChain log begin (goes_back e.rec) chain
