-- The list of the unfinished transactions.
use Rattle.std.proofs.lemmas.Grind.{common_steps}
use Rattle.log_laws.proofs.Names.{◌≡◌, ℕ, ◌+◌, ◌≤◌, Bool, true, false, cond, not, ◌&&◌, ◌||◌, List, [], ◌∷◌, ◌++◌, map, drop, refl, ap, subst, ◌∙◌, arith, and_from, and_parts, and_right, eqb-true, eq-eqb, ne_eqb, or_cases, or_left, or_right, append-nil, AllByRecursion, list_any, filter, ◌==◌, IsUndoable, IsFresh, closing_is_no_begin, Entry, txn_of, is_of, is_closing, is_closed, is_loser, entries_of, IsInOrder, is_begin, losers, Begin, all_right, all_weaker, filter_all}
use Rattle.log_laws.proofs.Lists.{any_find, all_find, find_passes}
use Rattle.log_laws.proofs.Values.{with, closed_push, closed_same}
use Rattle.log_laws.proofs.Parts.{are_losers}
use Rattle.log_laws.proofs.Appends.{fresh_open}
use Rattle.log_laws.proofs.Losers.{any_of_those, loser_is_not_closed}

abbrev pub is_listed : List Entry → Entry → Bool
is_listed log x = is_begin x.rec && not (is_closed log x.lsn)

losers_push : (log : List Entry) (e : Entry) → losers (with log e) ≡ map (λ (x : Entry). x.lsn) (filter (is_listed (with log e)) log) ++ map (λ (x : Entry). x.lsn) (cond (is_listed (with log e) e) (e ∷ []) [])
losers_push log e = grind (arith, common_steps)

listed_same : (log : List Entry) (e : Entry) → is_closing e.rec ≡ false → filter (is_listed (with log e)) log ≡ filter (is_listed log) log
listed_same log e c = grind (arith, common_steps)

pub losers_begin : (log : List Entry) (lsn : ℕ) → IsFresh lsn log → losers (with log (record { lsn = lsn; rec = Begin })) ≡ losers log ++ lsn ∷ []
losers_begin log lsn fresh = grind (arith, losers_push, listed_same, closed_same, and_right, fresh_open)

pub losers_stay : (log : List Entry) (e : Entry) → is_begin e.rec ≡ false → is_closing e.rec ≡ false → losers (with log e) ≡ losers log
losers_stay log e b c = grind (arith, common_steps)

-- A transaction is taken out.

two_tests : (g a b : Bool) → (g && not (a || ((b && true) || false))) ≡ ((g && not a) && not b)
two_tests x0 x1 b = grind (arith, common_steps)

listed_twice : (log : List Entry) (t : ℕ) (test : Entry → Bool) → ((x : Entry) → test x ≡ (is_listed log x && not (t == x.lsn))) → (xs : List Entry) →
    map (λ (x : Entry). x.lsn) (filter test xs) ≡ filter (λ s. not (t == s)) (map (λ (x : Entry). x.lsn) (filter (is_listed log) xs))
listed_twice log t test h [] = refl
listed_twice log t test h (x ∷ xs) = grind (arith, (listed_twice log t test h xs))

-- the list ascends
abbrev pub Ascends : ℕ → List ℕ → Type 0
Ascends from [] = Unit {0}
Ascends from (n ∷ ns) = (from ≤ n) × Ascends (n + 1) ns

ascends_from : (from from' : ℕ) (ns : List ℕ) → from' ≤ from → Ascends from ns → Ascends from' ns
ascends_from from from' [] l h = tt
ascends_from from from' (n ∷ ns) l h = (let b = h.0 in omega (arith, b, l), h.1)

pub losers_ascend : (test : Entry → Bool) (from : ℕ) (xs : List Entry) (to : ℕ) → IsInOrder from xs to → Ascends from (map (λ (x : Entry). x.lsn) (filter test xs))
losers_ascend test from [] to h = tt
losers_ascend test from (x ∷ xs) to h = grind (arith, ascends_from, (losers_ascend test (x.lsn + 1) xs to h.1))

pub above : (from : ℕ) (ns : List ℕ) → Ascends from ns → AllByRecursion (λ n. from ≤ n) ns
above from [] h = tt
above from (n ∷ ns) h = (h.0, above from ns (let b = h.0 in ascends_from (n + 1) from ns (omega (arith, b)) h.1))

-- without one of them
without : (t from : ℕ) (front back : List ℕ) → Ascends from (front ++ t ∷ back) → filter (λ s. not (t == s)) (front ++ t ∷ back) ≡ front ++ back
without t from [] back h =
    ap (λ b. cond (not b) (t ∷ filter (λ s. not (t == s)) back) (filter (λ s. not (t == s)) back)) (eq-eqb t t refl)
    ∙ filter_all (λ s. not (t == s)) back (all_weaker (λ n. t + 1 ≤ n) (λ s. not (t == s) ≡ true) (λ s b. ap not (ne_eqb t s (λ same. omega (arith, b, same)))) back (above (t + 1) back h.1))
without t from (n ∷ front) back h =
    let later = (all_right (λ s. n + 1 ≤ s) front (t ∷ back) (above (n + 1) (front ++ t ∷ back) h.1)).0 in
    ap (λ b. cond (not b) (n ∷ filter (λ s. not (t == s)) (front ++ t ∷ back)) (filter (λ s. not (t == s)) (front ++ t ∷ back))) (ne_eqb t n (λ same. omega (arith, later, same)))
    ∙ ap (λ (l : List ℕ). n ∷ l) (without t (n + 1) front back h.1)

pub losers_closed : (from to : ℕ) (log : List Entry) (e : Entry) (front back : List ℕ) → IsInOrder from log to → is_closing e.rec ≡ true → losers log ≡ front ++ txn_of e ∷ back → losers (with log e) ≡ front ++ back
losers_closed from to log e front back order c split =
    losers_push log e
    ∙ ap (λ g. map (λ (x : Entry). x.lsn) (filter (is_listed (with log e)) log) ++ map (λ (x : Entry). x.lsn) (cond (g && not (is_closed (with log e) e.lsn)) (e ∷ []) [])) (closing_is_no_begin e.rec c)
    ∙ append-nil (map (λ (x : Entry). x.lsn) (filter (is_listed (with log e)) log))
    ∙ listed_twice log (txn_of e) (is_listed (with log e))
    (λ x. ap (λ b. is_begin x.rec && not b) (closed_push log e x.lsn ∙ ap (λ k. is_closed log x.lsn || ((is_of x.lsn e && k) || false)) c) ∙ two_tests (is_begin x.rec) (is_closed log x.lsn) (txn_of e == x.lsn)) log
    ∙ ap (filter (λ s. not (txn_of e == s))) split
    ∙ without (txn_of e) from front back (subst (Ascends from) split (losers_ascend (is_listed log) from log to order))

-- Who is on the list.

pub listed_is_loser : (log : List Entry) (t : ℕ) → list_any (λ s. s == t) (losers log) ≡ true → is_loser log t ≡ true
listed_is_loser log t h = grind (arith, any_find, eqb-true, find_passes, all_find, are_losers)

pub begun_is_listed : (log : List Entry) (t : ℕ) → is_closed log t ≡ false → (xs : List Entry) → list_any (λ x. is_begin x.rec && (x.lsn == t)) xs ≡ true → list_any (λ s. s == t) (map (λ (x : Entry). x.lsn) (filter (is_listed log) xs)) ≡ true
begun_is_listed log t lives [] h = absurd (grind arith)
begun_is_listed log t lives (x ∷ xs) h = grind (arith, common_steps, and_parts, and_from, eqb-true, or_left, or_cases, or_right, (begun_is_listed log t lives xs))

pub loser_is_listed : (log : List Entry) (t : ℕ) → IsUndoable log → is_loser log t ≡ true → list_any (λ s. s == t) (losers log) ≡ true
loser_is_listed log t undoable loser =
    let chain = undoable.undone t loser in
    begun_is_listed log t (loser_is_not_closed log t loser) log
    (any_of_those (λ x. is_begin x.rec && (x.lsn == t)) (is_of t) log
    (ap (list_any (λ x. is_begin x.rec && (x.lsn == t))) chain.begins ∙ or_left (t == t) (list_any (λ x. is_begin x.rec && (x.lsn == t)) (drop 1 (entries_of t log))) (eq-eqb t t refl)))
