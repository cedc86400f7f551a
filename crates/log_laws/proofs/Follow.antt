-- The table behind one more record.
use Rattle.std.proofs.lemmas.Grind.{common_steps}
use Rattle.log_laws.proofs.Names.{◌≡◌, ℕ, ◌*◌, true, false, cond, ◌&&◌, List, [], ◌∷◌, ◌++◌, length, map, Some, None, refl, sym, ap, ◌∙◌, arith, and_from, and_parts, and_left, and_right, cases_Bool, eqb-true, eq-eqb, ne_eqb, append-nil, filter-append, list_any-append, cond_some, AllByRecursion, range_with_len, option_or, Option, option_map, unwrap_or, ◌==◌, Follows, IsUndoable, IsUndone, table_after, one, Entry, Version, slot_at, txn_of, is_of, is_on, number_of, is_update, is_loser, is_closed, is_closing, entries_of, last_where, last_on, first_update, before_of, before_first, after_of, value_after, value_of, table_of, Master, Pairwise, LogRecord, Begin, Update, Clr, Commit, End, Content, all_push, all_weaker, or_without_last}
use Rattle.log_laws.proofs.Tables.{table_written}
use Rattle.log_laws.proofs.Chains.{undone_by_chain}
use Rattle.log_laws.proofs.Values.{with, closed_same, closed_by, open_before, first_push, first_same, last_same, last_new, last_of_own, value_same, value_open, value_closed, is_loser_with, update_of, last_is_own, value_held, value_free, updates_there, is_number-Some}

module _ (m : Master) (pages : List Version) (log : List Entry) (undoable : IsUndoable log) where
  -- a record that closes nothing leaves the value where it isn't on it
  pub value_elsewhere : (e : Entry) (number : ℕ) → is_closing e.rec ≡ false → is_on number e ≡ false → value_of (with log e) pages number ≡ value_of log pages number
  value_elsewhere e number c off = grind (arith, common_steps, with, last_same, value_same, closed_same, and_right, first_same)

  -- and where it is on it too
  pub value_there : (e : Entry) (number : ℕ) → is_closing e.rec ≡ false → is_on number e ≡ true → is_closed log (txn_of e) ≡ false → number_of e.rec ≡ Some number → Follows m pages log e →
      value_of (with log e) pages number ≡ value_of log pages number
  value_there e number c on lives is f = by_first (first_update log t number) refl
    where
      t : ℕ
      t = txn_of e

      still : is_closed (with log e) (txn_of e) ≡ false
      still = closed_same log e (txn_of e) (and_right (is_of (txn_of e) e) (is_closing e.rec) c) ∙ lives

      new : value_of (with log e) pages number ≡ before_first (first_update (with log e) (txn_of e) number)
      new = value_open (with log e) pages number e (last_new log e number on) still

      first : (u : Entry) × (first_update (with log e) (txn_of e) number ≡ Some u)
      first = update_of (with log e) (txn_of e) number e f.can_be_undone still (last_of_own (with log e) (txn_of e) number e (last_new log e number on) refl)

      by_first : (o : Option Entry) → first_update log (txn_of e) number ≡ o → value_of (with log e) pages number ≡ value_of log pages number
      by_first (Some u) o =
          new ∙ ap before_first (first_push log e (txn_of e) number ∙ ap (λ (z : Option Entry). option_or z (one (updates_there (txn_of e) number) e)) o)
          ∙ sym (value_held log pages (txn_of e) number u undoable.held lives o)
      by_first None o =
          let found : one (updates_there (txn_of e) number) e ≡ Some first.0 =
          sym (first_push log e (txn_of e) number ∙ ap (λ (z : Option Entry). option_or z (one (updates_there (txn_of e) number) e)) o) ∙ first.1 in
          let c = cond_some (updates_there (txn_of e) number e) e first.0 found in
          let update = and_parts (is_update e.rec) (is_on number e) (and_parts (is_of (txn_of e) e) (is_update e.rec && is_on number e) c.0).1 in
          new ∙ ap before_first first.1 ∙ ap (λ (z : Entry). before_of z.rec) (sym c.1) ∙ f.from_shown number update.0 is
          ∙ sym (value_free log pages number e undoable.undone f.held_off on o)

  -- an End leaves it, since its transaction is undone
  pub value_ended : (lsn t number : ℕ) → is_closed log t ≡ false → IsUndone log t → value_of (with log (record { lsn = lsn; rec = End t })) pages number ≡ value_of log pages number
  value_ended lsn t number lives undone = grind (arith, common_steps, with, last_same, last_of_own, closed_by, and_from, eq-eqb, undone_by_chain, is_loser_with, value_open, eqb-true, value_same, closed_same, and_left, first_same, cases_Bool)

  -- a Commit makes what its transaction has written last count
  pub value_committed : (lsn t n number : ℕ) → is_closed log t ≡ false →
      value_of (with log (record { lsn = lsn; rec = Commit t n })) pages number ≡ unwrap_or (option_map (λ (x : Entry). after_of x.rec) (last_where (is_on number) (entries_of t log))) (value_of log pages number)
  value_committed lsn t n number lives = by_own (last_where (is_on number) (entries_of t log)) refl
    where
      e : Entry
      e = record { lsn = lsn; rec = Commit t n }

      new : Option Entry → Content
      new o = unwrap_or (option_map (λ (x : Entry). after_of x.rec) o) (value_of log pages number)

      by_last : last_where (is_on number) (entries_of t log) ≡ None → (o : Option Entry) → last_on log number ≡ o → value_after (with log e) number (slot_at pages number) o ≡ value_after log number (slot_at pages number) o
      by_last none None last = refl
      by_last none (Some x) last =
          let other : t ≡ txn_of x → ⊥ = λ same. (let never : None ≡ Some x = sym none ∙ last_of_own log t number x last (sym same) in grind arith) in
          value_same log (with log e) (slot_at pages number) number x (closed_same log e (txn_of x) (and_left (t == txn_of x) true (ne_eqb t (txn_of x) other))) (first_same log e (txn_of x) number refl)

      by_own : (o : Option Entry) → last_where (is_on number) (entries_of t log) ≡ o → value_of (with log e) pages number ≡ unwrap_or (option_map (λ (x : Entry). after_of x.rec) (last_where (is_on number) (entries_of t log))) (value_of log pages number)
      by_own None o =
          ap (value_after (with log e) number (slot_at pages number)) (last_same log e number refl) ∙ by_last o (last_on log number) refl
          ∙ sym (ap (λ (z : Option Entry). unwrap_or (option_map (λ (x : Entry). after_of x.rec) z) (value_of log pages number)) o)
      by_own (Some y) o =
          let u = update_of log t number y (undoable.undone t) lives o in
          let x = last_is_own log t number u.0 undoable.held lives u.1 in
          value_closed (with log e) pages number x.0 (last_same log e number refl ∙ x.1) (closed_by log e (txn_of x.0) (and_from (t == txn_of x.0) true (eq-eqb t (txn_of x.0) (sym x.2)) refl))
          ∙ sym (ap (λ (z : Option Entry). unwrap_or (option_map (λ (x : Entry). after_of x.rec) z) (value_of log pages number)) (last_of_own log t number x.0 x.1 x.2))

  -- The table.

  value_stays : (e : Entry) → is_closing e.rec ≡ false → is_closed log (txn_of e) ≡ false → Follows m pages log e → (number : ℕ) → value_of (with log e) pages number ≡ value_of log pages number
  value_stays e c lives f number = grind (arith, value_there, is_number-Some, value_elsewhere, cases_Bool)

  table_stays : (log' : List Entry) → ((number : ℕ) → value_of log' pages number ≡ value_of log pages number) → table_of log' pages ≡ table_of log pages
  table_stays log' h = ap (λ (v : ℕ → Content). map v (range_with_len 0 (32 * length pages))) (λ i number. h number i)

  pub table_behind : (e : Entry) → Follows m pages log e → table_of (with log e) pages ≡ table_after (table_of log pages) log e.rec
  table_behind e f = by_rec e.lsn e.rec f
    where
      by_rec : (lsn : ℕ) (rec : LogRecord) → Follows m pages log (record { lsn = lsn; rec = rec }) → table_of (with log (record { lsn = lsn; rec = rec })) pages ≡ table_after (table_of log pages) log rec
      by_rec lsn Begin f = table_stays (with log _) (λ number. value_elsewhere (record { lsn = lsn; rec = Begin }) number refl refl)
      by_rec lsn (Update t prev page slot before after) f = table_stays (with log _) (value_stays (record { lsn = lsn; rec = Update t prev page slot before after }) refl (f.of_open refl).not_closed f)
      by_rec lsn (Clr t prev undo_next page slot after) f = table_stays (with log _) (value_stays (record { lsn = lsn; rec = Clr t prev undo_next page slot after }) refl (f.of_open refl).not_closed f)
      by_rec lsn (Commit t n) f = table_written log (with log _) pages (entries_of t log) (λ number. value_committed lsn t n number (f.of_open refl).not_closed)
      by_rec lsn (End t) f = table_stays (with log _) (λ number. value_ended lsn t number (f.of_open refl).not_closed (f.ends_undone refl))

  -- The unfinished transactions can still be undone.

  entries_other : (e : Entry) (t : ℕ) → is_of t e ≡ false → entries_of t (with log e) ≡ entries_of t log
  entries_other e t h = filter-append (is_of t) log (e ∷ []) ∙ ap (λ b. entries_of t log ++ cond b (e ∷ []) []) h ∙ append-nil (entries_of t log)

  loser_other : (e : Entry) (t : ℕ) → is_of t e ≡ false → is_loser (with log e) t ≡ is_loser log t
  loser_other e t h = grind (arith, common_steps, with, list_any-append, or_without_last, closed_same, and_left)

  pairwise_weaker : (R S : Entry → Entry → Type 0) → ((u x : Entry) → R u x → S u x) → (xs : List Entry) → Pairwise R xs → Pairwise S xs
  pairwise_weaker R S w [] h = tt
  pairwise_weaker R S w (x ∷ xs) h = (all_weaker (R x) (S x) (w x) xs h.0, pairwise_weaker R S w xs h.1)

  pairwise_push : (R : Entry → Entry → Type 0) (xs : List Entry) (e : Entry) → Pairwise R xs → AllByRecursion (λ u. R u e) xs → Pairwise R (xs ++ e ∷ [])
  pairwise_push R [] e h k = (tt, tt)
  pairwise_push R (x ∷ xs) e h k = (all_push (R x) xs e h.0 k.0, pairwise_push R xs e h.1 k.1)

  pub undoable_behind : (e : Entry) → Follows m pages log e → IsUndoable (with log e)
  undoable_behind e f = grind (arith, common_steps, with, eqb-true, entries_other, loser_other, cases_Bool, pairwise_push, pairwise_weaker, all_weaker, open_before)
