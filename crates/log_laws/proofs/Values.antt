-- What a record that is put behind a log makes of the value at a number.
use Rattle.std.proofs.lemmas.Grind.{common_steps}
use Rattle.log_laws.proofs.Names.{◌≡◌, ℕ, ⊎_elim, Bool, true, false, ◌&&◌, ◌||◌, List, [], ◌∷◌, ◌++◌, Some, None, refl, sym, ap, ◌∙◌, arith, cond, or_parts, and_from, and_parts, and_right, eqb-true, eq-eqb, not_from_false, cases_Bool, list_any-append, find-append, AllByRecursion, option_or, Option, find, IsTrue, CanBeUndone, IsUndoable, one, last_where-append, all_last, Entry, Version, txn_of, is_of, is_on, is_update, is_loser, is_closed, is_closing, entries_of, last_where, last_on, first_update, before_of, before_first, after_of, value_after, value_of, is_number, shown, shown_by, slot_at, Pairwise, HoldsOff, ShowsLast, Content, or_without_last, option_or_none}
use Rattle.log_laws.proofs.Lists.{one_false, one_true, last_passes, last_any, last_where-filter, find-filter, last_of_both, find_passes, all_find, any_left}
use Rattle.log_laws.proofs.Chains.{update_of_chain}

abbrev pub with : List Entry → Entry → List Entry
with log e = log ++ e ∷ []

-- a number that is a record's
pub is_number-Some : (number : ℕ) (o : Option ℕ) → is_number number o ≡ true → o ≡ Some number
is_number-Some number x1 h = grind (arith, common_steps, eqb-true)

-- Which transactions are closed.

pub closed_push : (log : List Entry) (e : Entry) (t : ℕ) → is_closed (with log e) t ≡ (is_closed log t || ((is_of t e && is_closing e.rec) || false))
closed_push log e t = list_any-append (λ x. is_of t x && is_closing x.rec) log (e ∷ [])

pub closed_same : (log : List Entry) (e : Entry) (t : ℕ) → (is_of t e && is_closing e.rec) ≡ false → is_closed (with log e) t ≡ is_closed log t
closed_same log e t h = closed_push log e t ∙ or_without_last (is_closed log t) (is_of t e && is_closing e.rec) h

pub closed_by : (log : List Entry) (e : Entry) (t : ℕ) → (is_of t e && is_closing e.rec) ≡ true → is_closed (with log e) t ≡ true
closed_by log e t h = grind (arith, common_steps)

pub open_before : (log : List Entry) (e : Entry) (t : ℕ) → is_closed (with log e) t ≡ false → is_closed log t ≡ false
open_before log e t h = (or_parts (is_closed log t) ((is_of t e && is_closing e.rec) || false) (sym (closed_push log e t) ∙ h)).0

-- The first Update of a transaction on a number, and the last record there.

abbrev pub updates_there : ℕ → ℕ → Entry → Bool
updates_there t number x = is_of t x && (is_update x.rec && is_on number x)

pub first_is : (log : List Entry) (t number : ℕ) → first_update log t number ≡ find (updates_there t number) log
first_is log t number = grind (arith, find-filter)

pub first_push : (log : List Entry) (e : Entry) (t number : ℕ) → first_update (with log e) t number ≡ option_or (first_update log t number) (one (updates_there t number) e)
first_push log e t number = grind (arith, first_is, find-append)

pub first_same : (log : List Entry) (e : Entry) (t number : ℕ) → (is_update e.rec && is_on number e) ≡ false → first_update (with log e) t number ≡ first_update log t number
first_same log e t number h = grind (arith, first_push, one_false, and_right, option_or_none)

pub last_push : (log : List Entry) (e : Entry) (number : ℕ) → last_on (with log e) number ≡ option_or (one (is_on number) e) (last_on log number)
last_push log e number = last_where-append (is_on number) log (e ∷ [])

pub last_same : (log : List Entry) (e : Entry) (number : ℕ) → is_on number e ≡ false → last_on (with log e) number ≡ last_on log number
last_same log e number h = last_push log e number ∙ ap (λ (o : Option Entry). option_or o (last_on log number)) (one_false (is_on number) e h)

pub last_new : (log : List Entry) (e : Entry) (number : ℕ) → is_on number e ≡ true → last_on (with log e) number ≡ Some e
last_new log e number h = last_push log e number ∙ ap (λ (o : Option Entry). option_or o (last_on log number)) (one_true (is_on number) e h)

-- the last record there is the last of its transaction there
pub last_of_own : (log : List Entry) (t number : ℕ) (x : Entry) → last_on log number ≡ Some x → txn_of x ≡ t → last_where (is_on number) (entries_of t log) ≡ Some x
last_of_own log t number x e own = last_where-filter (is_on number) (is_of t) log ∙ last_of_both (is_on number) (is_of t) log x e (eq-eqb (txn_of x) t own)

-- Values.

pub value_same : (log log' : List Entry) (slot : Content) (number : ℕ) (x : Entry) → is_closed log' (txn_of x) ≡ is_closed log (txn_of x) → first_update log' (txn_of x) number ≡ first_update log (txn_of x) number →
    value_after log' number slot (Some x) ≡ value_after log number slot (Some x)
value_same log log' slot number x closed first = grind arith

pub value_open : (log : List Entry) (pages : List Version) (number : ℕ) (x : Entry) → last_on log number ≡ Some x → is_closed log (txn_of x) ≡ false →
    value_of log pages number ≡ before_first (first_update log (txn_of x) number)
value_open log pages number x last lives = grind arith

pub value_closed : (log : List Entry) (pages : List Version) (number : ℕ) (x : Entry) → last_on log number ≡ Some x → is_closed log (txn_of x) ≡ true →
    value_of log pages number ≡ after_of x.rec
value_closed log pages number x last closed = grind arith

-- Transactions that are unfinished.

pub is_loser_with : (log : List Entry) (t number : ℕ) (x : Entry) → is_closed log t ≡ false → last_where (is_on number) (entries_of t log) ≡ Some x → IsTrue (is_loser log t)
is_loser_with log t number x lives e = grind (arith, and_from, any_left, last_any, last_where-filter, not_from_false)

-- one that has something on a number has an Update there
pub update_of : (log : List Entry) (t number : ℕ) (x : Entry) → CanBeUndone log t → is_closed log t ≡ false → last_where (is_on number) (entries_of t log) ≡ Some x →
    (u : Entry) × (first_update log t number ≡ Some u)
update_of log t number x undo lives e = update_of_chain number t (entries_of t log) x (undo (is_loser_with log t number x lives e)) e

pub own_last : (log : List Entry) (t number : ℕ) (xs : List Entry) (u : Entry) → Pairwise (HoldsOff log) xs → is_closed log t ≡ false → find (updates_there t number) xs ≡ Some u →
    (x : Entry) × (last_on xs number ≡ Some x) × (txn_of x ≡ t)
own_last log t number [] u h lives e = absurd (grind arith)
own_last log t number (y ∷ ys) u h lives e = by_test (updates_there t number y) refl (own_last log t number ys u h.1 lives) e
  where
    first_here : updates_there t number y ≡ true → (o : Option Entry) → last_on ys number ≡ o → (x : Entry) × (option_or o (one (is_on number) y) ≡ Some x) × (txn_of x ≡ t)
    first_here b None last = let parts = and_parts (is_of t y) (is_update y.rec && is_on number y) b in let more = and_parts (is_update y.rec) (is_on number y) parts.1 in
        (y, one_true (is_on number) y more.1, eqb-true (txn_of y) t parts.0)
    first_here b (Some x) last =
        let parts = and_parts (is_of t y) (is_update y.rec && is_on number y) b in let more = and_parts (is_update y.rec) (is_on number y) parts.1 in
        let own = eqb-true (txn_of y) t parts.0 in
        (x, refl, sym (all_last (HoldsOff log y) (is_on number) ys x h.0 last number more.0 more.1 (last_passes (is_on number) ys x last) (ap (is_closed log) own ∙ lives)) ∙ own)

    by_test : (b : Bool) → updates_there t number y ≡ b → (find (updates_there t number) ys ≡ Some u → (x : Entry) × (last_on ys number ≡ Some x) × (txn_of x ≡ t)) →
        cond b (Some y) (find (updates_there t number) ys) ≡ Some u → (x : Entry) × (last_on (y ∷ ys) number ≡ Some x) × (txn_of x ≡ t)
    by_test true b f e = first_here b (last_on ys number) refl
    by_test false b f e = let r = f e in (r.0, ap (λ (o : Option Entry). option_or o (one (is_on number) y)) r.1, r.2)

-- and what stands there last is its own
pub last_is_own : (log : List Entry) (t number : ℕ) (u : Entry) → Pairwise (HoldsOff log) log → is_closed log t ≡ false → first_update log t number ≡ Some u →
    (x : Entry) × (last_on log number ≡ Some x) × (txn_of x ≡ t)
last_is_own log t number u held lives e = own_last log t number log u held lives (sym (first_is log t number) ∙ e)

-- so the value there is what stood before its first Update
pub value_held : (log : List Entry) (pages : List Version) (t number : ℕ) (u : Entry) → Pairwise (HoldsOff log) log → is_closed log t ≡ false → first_update log t number ≡ Some u →
    value_of log pages number ≡ before_of u.rec
value_held log pages t number u held lives e = grind (arith, last_is_own, held, value_open)

-- where no unfinished transaction but this record's has an Update, nor that one, the value is what the slot shows
pub value_free : (log : List Entry) (pages : List Version) (number : ℕ) (e : Entry) → ((t : ℕ) → CanBeUndone log t) → AllByRecursion (λ u. HoldsOff log u e) log → is_on number e ≡ true →
    first_update log (txn_of e) number ≡ None → value_of log pages number ≡ shown log pages number
value_free log pages number e undo off on none = by_last (last_on log number) refl
  where
    held : (x : Entry) → last_on log number ≡ Some x → is_closed log (txn_of x) ≡ false → ⊥
    held x last lives =
        let u = update_of log (txn_of x) number x (undo (txn_of x)) lives (last_of_own log (txn_of x) number x last refl) in
        let there = sym (first_is log (txn_of x) number) ∙ u.1 in
        let parts = and_parts (is_of (txn_of x) u.0) (is_update u.0.rec && is_on number u.0) (find_passes (updates_there (txn_of x) number) log u.0 there) in
        let more = and_parts (is_update u.0.rec) (is_on number u.0) parts.1 in
        let own = eqb-true (txn_of u.0) (txn_of x) parts.0 in
        let same : txn_of u.0 ≡ txn_of e = all_find (λ v. HoldsOff log v e) (updates_there (txn_of x) number) log u.0 off there number more.0 more.1 on (ap (is_closed log) own ∙ lives) in
        let some : first_update log (txn_of e) number ≡ Some u.0 = ap (λ s. first_update log s number) (sym same ∙ own) ∙ u.1 in
        let never : None ≡ Some u.0 = sym none ∙ some in absurd (grind arith)

    by_last : (o : Option Entry) → last_on log number ≡ o → value_of log pages number ≡ shown log pages number
    by_last None last = ap (value_after log number (slot_at pages number)) last ∙ sym (ap (shown_by (slot_at pages number)) last)
    by_last (Some x) last = ⊎_elim
        (λ closed. value_closed log pages number x last closed ∙ sym (ap (shown_by (slot_at pages number)) last))
        (λ lives. absurd (held x last lives))
        (cases_Bool (is_closed log (txn_of x)))

-- what shows begins with what an unfinished transaction has written there last
pub shown_begins : (log : List Entry) (pages : List Version) (t number : ℕ) (slot : Content) → IsUndoable log → is_closed log t ≡ false → slot ≡ shown log pages number → ShowsLast slot (last_on (entries_of t log) number)
shown_begins log pages t number slot undoable lives is = grind (arith, update_of, last_is_own, last_of_own)
