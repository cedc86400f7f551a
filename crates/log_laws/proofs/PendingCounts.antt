-- No more Updates wait to be undone than undo owes blocks.
use Rattle.std.proofs.lemmas.Grind.{common_steps}
use Rattle.log_laws.proofs.Names.{◌≡◌, ℕ, ◌+◌, ◌<◌, ◌≤◌, Bool, true, false, cond, not, ◌&&◌, ◌||◌, List, [], ◌∷◌, length, refl, ap, ◌∙◌, arith, eqb-true, ne_eqb, length-filter, sum_by-cons, AllByRecursion, list_any, sum_by, IsTrue, Entry, entries_of, is_closed, is_loser, is_of, is_update, txn_of, IsInOrder, IsLoserChain, is_begin, left_open, owed, pending, all_each, sum_both, sum_le, sum_made, sum_of_zeros, sum_swap}
use Rattle.std.proofs.Common.{◌==◌}
use Rattle.log_laws.proofs.Owing.{begun_by, once}
use Rattle.log_laws.proofs.Parts.{all_own}

-- At most one record has an LSN.

abbrev at : ℕ → Entry → ℕ
at n e = cond (n == e.lsn) 1 0

none_at : (n from : ℕ) (log : List Entry) (to : ℕ) → n < from → IsInOrder from log to → sum_by (at n) log ≡ 0
none_at n from [] to below order = refl
none_at n from (e ∷ log) to below order = grind (arith, common_steps, ne_eqb, sum_by-cons, (none_at n (e.lsn + 1) log to))

one_at : (n from : ℕ) (log : List Entry) (to : ℕ) → IsInOrder from log to → sum_by (at n) log ≤ 1
one_at n from [] to order = grind (arith, common_steps)
one_at n from (e ∷ log) to order = grind (arith, common_steps, eqb-true, sum_by-cons, none_at, (one_at n (e.lsn + 1) log to order.1))

abbrev pub among : List Entry → Entry → ℕ
among us e = cond (list_any (λ u. u.lsn == e.lsn) us) 1 0

pub among_few : (us : List Entry) (from : ℕ) (log : List Entry) (to : ℕ) → IsInOrder from log to → sum_by (among us) log ≤ length us
among_few [] from log to order = omega (arith, sum_of_zeros log)
among_few (u ∷ us) from log to order =
    let each = sum_le (among (u ∷ us)) (λ e. at u.lsn e + among us e) log (all_each _ (λ e. either (u.lsn == e.lsn) (list_any (λ v. v.lsn == e.lsn) us)) log) in
    omega (arith, each, sum_both (at u.lsn) (among us) log, one_at u.lsn from log to order, among_few us from log to order)
  where
    either : (a b : Bool) → cond (a || b) 1 0 ≤ cond a 1 0 + cond b 1 0
    either true b = omega arith
    either false b = omega arith

-- the Begin of an unfinished transaction, and how many Updates of it are to be undone
abbrev pub lives : List Entry → Entry → Bool
lives log b = is_begin b.rec && not (is_closed log b.lsn)

abbrev pub left_by : List Entry → Entry → ℕ
left_by log b = cond (lives log b) (length (left_open log b.lsn)) 0

-- the Updates that wait, transaction by transaction
abbrev pub waits : List Entry → Entry → Bool
waits log e = is_update e.rec && not (is_closed log (txn_of e)) && list_any (λ u. u.lsn == e.lsn) (left_open log (txn_of e))

-- Each Update that waits is of a transaction whose Begin stands in the log.

module _ (log : List Entry) (chains : (t : ℕ) → IsTrue (is_loser log t) → IsLoserChain t (entries_of t log)) where
  abbrev waiting : Entry → ℕ
  waiting e = cond (waits log e) 1 0

  abbrev for_begin : Entry → Entry → ℕ
  for_begin e b = cond (begun_by (txn_of e) b) (waiting e) 0

  begun : (e : Entry) → list_any (is_of (txn_of e)) log ≡ true → waiting e ≤ sum_by (for_begin e) log
  begun e own = by (is_closed log (txn_of e)) refl
    where
      closed_none : (u a : Bool) → ◌≡◌ {A = ℕ} (cond (u && not true && a) 1 0) 0
      closed_none true a = refl
      closed_none false a = refl

      by : (c : Bool) → is_closed log (txn_of e) ≡ c → waiting e ≤ sum_by (for_begin e) log
      by true is =
          let none : waiting e ≡ 0 = ap (λ (b : Bool). cond (is_update e.rec && not b && list_any (λ u. u.lsn == e.lsn) (left_open log (txn_of e))) 1 0) is
          ∙ closed_none (is_update e.rec) (list_any (λ u. u.lsn == e.lsn) (left_open log (txn_of e))) in
          omega (arith, none)
      by false is =
          let loser : is_loser log (txn_of e) ≡ true = ap (λ (b : Bool). b && not (is_closed log (txn_of e))) own ∙ ap not is in
          omega (arith, once log (txn_of e) (waiting e) (chains (txn_of e) loser))

  -- those of one transaction
  own_few : (e b : Entry) → for_begin e b ≤ cond (lives log b) (among (left_open log b.lsn) e) 0
  own_few e b = grind (arith, common_steps, eqb-true)

  all_begun : (xs : List Entry) → AllByRecursion (λ e. list_any (is_of (txn_of e)) log ≡ true) xs → AllByRecursion (λ e. waiting e ≤ sum_by (for_begin e) log) xs
  all_begun [] all = tt
  all_begun (e ∷ xs) all = (begun e all.0, all_begun xs all.1)

  one_leaves : (from to : ℕ) → IsInOrder from log to → (b : Entry) → sum_by (λ e. for_begin e b) log ≤ left_by log b
  one_leaves from to order b = by (lives log b) (sum_le (λ e. for_begin e b) (λ e. cond (lives log b) (among (left_open log b.lsn) e) 0) log (all_each _ (λ e. own_few e b) log))
    where
      by : (live : Bool) → sum_by (λ e. for_begin e b) log ≤ sum_by (λ e. cond live (among (left_open log b.lsn) e) 0) log → sum_by (λ e. for_begin e b) log ≤ cond live (length (left_open log b.lsn)) 0
      by true few = omega (arith, few, among_few (left_open log b.lsn) from log to order)
      by false few = omega (arith, few, sum_of_zeros log)

  pub pending_left : (from to : ℕ) → IsInOrder from log to → length (pending log) ≤ sum_by (left_by log) log
  pending_left from to order =
      let many : length (pending log) ≡ sum_by waiting log = length-filter (waits log) log in
      let each = sum_le waiting (λ e. sum_by (for_begin e) log) log (all_begun log (all_own log)) in
      let turned = sum_swap for_begin log log in
      let all = sum_le (λ b. sum_by (λ e. for_begin e b) log) (left_by log) log (all_each _ (one_leaves from to order) log) in
      omega (arith, many, each, turned, all)

  pub pending_few : (from to : ℕ) → IsInOrder from log to → length (pending log) ≤ owed log
  pending_few from to order = grind (arith, common_steps, sum_made, sum_le, all_each, pending_left)
