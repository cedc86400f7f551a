-- What slots show once all records are redone.
use Rattle.log_laws.proofs.Names.{◌≡◌, ℕ, true, false, cond, List, [], ◌∷◌, Some, None, refl, ap, ◌∙◌, arith, sym, and_from, cases_Bool, not_from_false, list_any, Option, option_map, unwrap_or, IsUndoable, IsFree, IsFreeFor, has_written, writes_in, all_last, Entry, Version, txn_of, is_of, is_on, is_closed, is_loser, entries_of, last_where, last_on, after_of, value_of, shown, shown_by, slot_at, Content, last_write}
use Rattle.log_laws.proofs.Lists.{last_passes}
use Rattle.log_laws.proofs.Values.{with, last_push, last_of_own, value_closed, last_is_own, update_of}
use Rattle.log_laws.proofs.Tables.{last_write_of}
use Rattle.log_laws.proofs.Appends.{has_written_is, all_written}

-- One more record.

pub shown_push : (log : List Entry) (e : Entry) (pages : List Version) (number : ℕ) → shown (with log e) pages number ≡ cond (is_on number e) (after_of e.rec) (shown log pages number)
shown_push log e pages number = grind (arith, last_push)

-- What is shown and what counts.

-- the last record on a number is one that its transaction has written
last_written : (log : List Entry) (number : ℕ) (x : Entry) → last_on log number ≡ Some x → has_written log (txn_of x) number ≡ true
last_written log number x last =
    has_written_is log (txn_of x) number
    ∙ all_last (λ u. (n : ℕ) → is_on n u ≡ true → list_any (is_on n) (entries_of (txn_of u) log) ≡ true) (is_on number) log x (all_written log) last number (last_passes (is_on number) log x last)

pub shown_is_value : (log : List Entry) (pages : List Version) (number : ℕ) → IsFree log number → shown log pages number ≡ value_of log pages number
shown_is_value log pages number free = grind (arith, value_closed, last_written, cases_Bool)

pub shown_is_seen : (log : List Entry) (pages : List Version) (t number : ℕ) → IsUndoable log → is_closed log t ≡ false → IsFreeFor log t number →
    shown log pages number ≡ unwrap_or (last_write (writes_in t log) number) (value_of log pages number)
shown_is_seen log pages t number undoable lives free = by_own (last_where (is_on number) (entries_of t log)) refl
  where
    seen_by : Option Entry → Content
    seen_by o = unwrap_or (option_map (λ (x : Entry). after_of x.rec) o) (value_of log pages number)

    seen_is : unwrap_or (last_write (writes_in t log) number) (value_of log pages number) ≡ unwrap_or (option_map (λ (x : Entry). after_of x.rec) (last_where (is_on number) (entries_of t log))) (value_of log pages number)
    seen_is = ap (λ (o : Option Content). unwrap_or o (value_of log pages number)) (last_write_of (entries_of t log) number)

    by_last : last_where (is_on number) (entries_of t log) ≡ None → (o : Option Entry) → last_on log number ≡ o → shown log pages number ≡ value_of log pages number
    by_last none None last = grind arith
    by_last none (Some x) last = grind (arith, value_closed, last_written, last_of_own, cases_Bool)

    by_own : (o : Option Entry) → last_where (is_on number) (entries_of t log) ≡ o → shown log pages number ≡ unwrap_or (last_write (writes_in t log) number) (value_of log pages number)
    by_own None o =
        by_last o (last_on log number) refl
        ∙ sym (seen_is ∙ ap (λ (z : Option Entry). unwrap_or (option_map (λ (x : Entry). after_of x.rec) z) (value_of log pages number)) o)
    by_own (Some y) o =
        let u = update_of log t number y (undoable.undone t) lives o in
        let x = last_is_own log t number u.0 undoable.held lives u.1 in
        ap (shown_by (slot_at pages number)) x.1
        ∙ sym (seen_is ∙ ap (λ (z : Option Entry). unwrap_or (option_map (λ (x : Entry). after_of x.rec) z) (value_of log pages number)) (last_of_own log t number x.0 x.1 x.2))

-- Transactions that have written are unfinished or closed.

any_entries : (log : List Entry) (t number : ℕ) → list_any (is_on number) (entries_of t log) ≡ true → list_any (is_of t) log ≡ true
any_entries [] t number h = absurd (grind arith)
any_entries (e ∷ log) t number h = grind (arith, (any_entries log t number))

pub writer_is_loser : (log : List Entry) (t number : ℕ) → is_closed log t ≡ false → has_written log t number ≡ true → is_loser log t ≡ true
writer_is_loser log t number lives h = grind (arith, and_from, any_entries, has_written_is, not_from_false)
