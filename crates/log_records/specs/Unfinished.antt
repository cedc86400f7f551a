-- What unfinished transactions leave to be undone.
use Rattle.std.specs.Prelude.{ℕ, ◌+◌, ◌==◌, Bool, true, false, not, ◌&&◌, List, [], ◌∷◌, length, map, filter, drop}
use Rattle.std.specs.Prelude.{sum_by}
use Rattle.std.specs.List.{list_any}
use Rattle.log_records.specs.declared.log_record.LogRecord.{LogRecord}
use Rattle.log_records.specs.declared.log_record.LogRecord.TheVariants.{Begin, Update, Clr}
use Rattle.log_records.specs.Log.{Entry, txn_of, entries_of, is_update, is_closed}

abbrev pub is_begin : LogRecord → Bool
is_begin Begin = true
is_begin _ = false

abbrev pub is_clr : LogRecord → Bool
is_clr (Clr txn prev undo_next page slot after) = true
is_clr _ = false

abbrev pub clrs_in : List Entry → List Entry
clrs_in entries = filter (λ e. is_clr e.rec) entries

-- the LSN of the transaction's record before an Update or a CLR
abbrev pub prev_of : LogRecord → ℕ
prev_of (Update txn prev page slot before after) = prev
prev_of (Clr txn prev undo_next page slot after) = prev
prev_of _ = 0

-- The Updates that records of a transaction leave to be undone, the last one first: a CLR takes that one away.
abbrev pub open_by : List Entry → Entry → LogRecord → List Entry
open_by updates e (Update txn prev page slot before after) = e ∷ updates
open_by updates e (Clr txn prev undo_next page slot after) = drop 1 updates
open_by updates e _ = updates

abbrev pub open_updates : List Entry → List Entry → List Entry
open_updates updates [] = updates
open_updates updates (e ∷ entries) = open_updates (open_by updates e e.rec) entries

abbrev pub left_open : List Entry → ℕ → List Entry
left_open log t = open_updates [] (entries_of t log)

-- the Updates of all unfinished transactions that no CLR compensates
abbrev pub pending : List Entry → List Entry
pending log = filter (λ e. is_update e.rec && not (is_closed log (txn_of e))
    && list_any (λ u. u.lsn == e.lsn) (left_open log (txn_of e))) log

-- the unfinished transactions whose Begin is in the log
abbrev pub losers : List Entry → List ℕ
losers log = map (λ e. e.lsn) (filter (λ e. is_begin e.rec && not (is_closed log e.lsn)) log)

-- the blocks that undo may take: one for each Update that is left, and one for the End
abbrev pub owed_by : List Entry → ℕ → ℕ
owed_by log t = length (left_open log t) + 1

abbrev pub owed : List Entry → ℕ
owed log = sum_by (owed_by log) (losers log)
