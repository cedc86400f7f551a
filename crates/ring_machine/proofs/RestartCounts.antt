-- How many records a restart logs.
use Rattle.std.proofs.Common.{◌≡◌, inl, inr, ℕ, zero, suc, ◌+◌, ◌*◌, ◌≤◌, ◌==◌, Bool, true, false, cond, not, ◌&&◌, ◌||◌, List, [], ◌∷◌, ◌++◌, length, map, filter_map, replicate, reverse, Option, Some, None, refl, sym, ap, ◌∙◌, arith, true≢false}
use Rattle.std.specs.Prelude.{sum_by, IsTrue, if◌then◌else◌}
use Rattle.std.specs.List.{AllByRecursion, list_any}
use Rattle.std.proofs.lemmas.Bool.{and_from, and_parts, eqb-true, not-true, or_cases}
use Rattle.std.proofs.lemmas.List.{length-reverse}
use Rattle.std.proofs.lemmas.List.Sums.{length-filter}
use Rattle.std_lemmas.proofs.AllOf.{all_both, all_each, all_filter, all_passed, all_reverse, all_weaker}
use Rattle.std_lemmas.proofs.Sums.{sum_both, sum_le, sum_made}
use Rattle.record_model.specs.State.{Content}
use Rattle.log_records.specs.Log.{Entry, before_of, entries_of, is_closed, is_loser, is_of, is_update, number_of, txn_of}
use Rattle.log_records.specs.Restart.{redo_touch}
use Rattle.log_records.specs.Sound.{IsInOrder, IsLoserChain, from_block}
use Rattle.log_records.specs.Unfinished.{is_begin, left_open, losers, owed, owed_by, pending}
use Rattle.log_laws.proofs.Owing.{begun_by, once}
use Rattle.log_laws.proofs.PendingCounts.{left_by, lives, pending_left, waits}
use Rattle.log_laws.proofs.Parts.{all_own}
use Rattle.ring_machine.specs.Machine.{cached, logged}
use Rattle.ring_machine.specs.Commands.{ends, saves}
use Rattle.ring_machine.specs.Restart.{clr_on, clr_work, is_empty, only_ends, redo_work, restart_work, undo_work, undoing_one, undoing_work}
use Rattle.ring_machine.specs.Counts.{records_in, saves_in, RestartsLogFew}
use Rattle.ring_machine.proofs.Counts.{cached_logs, records_join, saves_join}

-- of these Updates, how many have no earlier one of their transaction
abbrev firsts : List Entry → ℕ
firsts [] = 0
firsts (u ∷ earlier) = cond (list_any (is_of (txn_of u)) earlier) 0 1 + firsts earlier

module _ (log : List Entry) (chains : (t : ℕ) → IsTrue (is_loser log t) → IsLoserChain t (entries_of t log)) where
  -- The transactions that are ended first.

  abbrev ends_first : Entry → ℕ
  ends_first b = cond (lives log b) (cond (is_empty (left_open log b.lsn)) 1 0) 0

  ends_counted : length (only_ends log) ≡ sum_by ends_first log
  ends_counted = length-filter (λ t. is_empty (left_open log t)) (losers log) ∙ sum_made (λ t. cond (is_empty (left_open log t)) 1 0) (λ (e : Entry). e.lsn) (lives log) log

  -- The transactions that have some of these Updates.

  abbrev has_some : List Entry → Entry → ℕ
  has_some us b = cond (lives log b) (cond (list_any (is_of b.lsn) us) 1 0) 0

  firsts_few : (us : List Entry) → AllByRecursion (λ u. is_loser log (txn_of u) ≡ true) us → firsts us ≤ sum_by (has_some us) log
  firsts_few [] all = omega arith
  firsts_few (u ∷ us) all = by (list_any (is_of (txn_of u)) us) refl (firsts_few us all.1)
    where
      more : (g c h a : Bool) → cond (g && not c) (cond a 1 0) 0 ≤ cond (g && not c) (cond (h || a) 1 0) 0
      more false c h a = omega arith
      more true true h a = omega arith
      more true false true true = omega arith
      more true false true false = omega arith
      more true false false a = omega arith

      one_more : (g c h a : Bool) → (h ≡ true → (c ≡ false) × (a ≡ false)) → cond (g && not c) (cond a 1 0) 0 + cond (g && h) 1 0 ≤ cond (g && not c) (cond (h || a) 1 0) 0
      one_more false c h a none = omega arith
      one_more true c false a none = omega arith
      one_more true true true a none = absurd (true≢false (none refl).0)
      one_more true false true true none = absurd (true≢false (none refl).1)
      one_more true false true false none = omega arith

      new : list_any (is_of (txn_of u)) us ≡ false → (b : Entry) → has_some us b + cond (begun_by (txn_of u) b) 1 0 ≤ has_some (u ∷ us) b
      new none b = one_more (is_begin b.rec) (is_closed log b.lsn) (txn_of u == b.lsn) (list_any (is_of b.lsn) us)
          (λ own. let same = eqb-true (txn_of u) b.lsn own in
          let parts = and_parts (list_any (is_of (txn_of u)) log) (not (is_closed log (txn_of u))) all.0 in
          (ap (is_closed log) (sym same) ∙ not-true (is_closed log (txn_of u)) parts.1, ap (λ t. list_any (is_of t) us) (sym same) ∙ none))

      by : (b : Bool) → list_any (is_of (txn_of u)) us ≡ b → firsts us ≤ sum_by (has_some us) log → cond b 0 1 + firsts us ≤ sum_by (has_some (u ∷ us)) log
      by true is rest =
          let each = sum_le (has_some us) (has_some (u ∷ us)) log (all_each _ (λ b. more (is_begin b.rec) (is_closed log b.lsn) (txn_of u == b.lsn) (list_any (is_of b.lsn) us)) log) in
          omega (arith, each, rest)
      by false is rest =
          let each = sum_le (λ b. has_some us b + cond (begun_by (txn_of u) b) 1 0) (has_some (u ∷ us)) log (all_each _ (new is) log) in
          omega (arith, each, rest, sum_both (has_some us) (λ b. cond (begun_by (txn_of u) b) 1 0) log, once log (txn_of u) 1 (chains (txn_of u) all.0))

  -- One that has an Update among these isn't ended first.

  some_left : (us : List Entry) (t : ℕ) → AllByRecursion (λ u. is_empty (left_open log (txn_of u)) ≡ false) us → list_any (is_of t) us ≡ true → is_empty (left_open log t) ≡ false
  some_left [] t all has = absurd cc
  some_left (u ∷ us) t all has = elim (or_cases (is_of t u) (list_any (is_of t) us) has)
      [ inl own ↦ ap (λ n. is_empty (left_open log n)) (sym (eqb-true (txn_of u) t own)) ∙ all.0 | inr later ↦ some_left us t all.1 later ]

  each_owes : (us : List Entry) → AllByRecursion (λ u. is_empty (left_open log (txn_of u)) ≡ false) us → sum_by ends_first log + sum_by (left_by log) log + sum_by (has_some us) log ≤ owed log
  each_owes us all =
      let owed_is : owed log ≡ sum_by (λ b. cond (lives log b) (owed_by log b.lsn) 0) log = sum_made (owed_by log) (λ (e : Entry). e.lsn) (lives log) log in
      let each = sum_le (λ b. (ends_first b + left_by log b) + has_some us b) (λ b. cond (lives log b) (owed_by log b.lsn) 0) log
      (all_each _ (λ b. owes (lives log b) (is_empty (left_open log b.lsn)) (list_any (is_of b.lsn) us) (length (left_open log b.lsn)) (some_left us b.lsn all)) log) in
      omega (arith, owed_is, each, sum_both ends_first (left_by log) log, sum_both (λ b. ends_first b + left_by log b) (has_some us) log)
    where
      owes : (live empty some : Bool) (n : ℕ) → (some ≡ true → empty ≡ false) → (cond live (cond empty 1 0) 0 + cond live n 0) + cond live (cond some 1 0) 0 ≤ cond live (n + 1) 0
      owes false empty some n none = omega arith
      owes true true true n none = absurd (true≢false (none refl))
      owes true true false n none = omega arith
      owes true false true n none = omega arith
      owes true false false n none = omega arith

  -- What undo logs.

  undoing_few : (us : List Entry) → records_in (undoing_work us) ≤ length us + firsts us
  undoing_few [] = omega arith
  undoing_few (u ∷ earlier) =
      let one = after_it (list_any (is_of (txn_of u)) earlier) in
      omega (arith, one, clr_one (before_of u.rec) (number_of u.rec), undoing_few earlier, records_join (undoing_one u earlier) (undoing_work earlier), records_join (clr_work u) (if list_any (is_of (txn_of u)) earlier then [] else ends))
    where
      clr_one : (before : Content) (number : Option ℕ) → records_in (clr_on before number) ≤ 1
      clr_one before None = omega arith
      clr_one before (Some number) = omega arith

      after_it : (b : Bool) → records_in (if b then [] else ends) ≡ cond b 0 1
      after_it true = refl
      after_it false = refl

  each_waits : (e : Entry) → list_any (is_of (txn_of e)) log ≡ true → waits log e ≡ true → (is_loser log (txn_of e) ≡ true) × (is_empty (left_open log (txn_of e)) ≡ false)
  each_waits e own is =
      let parts = and_parts (is_update e.rec && not (is_closed log (txn_of e))) (list_any (λ u. u.lsn == e.lsn) (left_open log (txn_of e))) is in
      let more = and_parts (is_update e.rec) (not (is_closed log (txn_of e))) parts.0 in
      (and_from (list_any (is_of (txn_of e)) log) (not (is_closed log (txn_of e))) own more.1, some (left_open log (txn_of e)) parts.1)
    where
      some : (us : List Entry) → list_any (λ u. u.lsn == e.lsn) us ≡ true → is_empty us ≡ false
      some [] has = absurd cc
      some (u ∷ us) has = refl

  all_wait : AllByRecursion (λ e. (is_loser log (txn_of e) ≡ true) × (is_empty (left_open log (txn_of e)) ≡ false)) (pending log)
  all_wait = all_both (λ e. list_any (is_of (txn_of e)) log ≡ true) (λ e. waits log e ≡ true) (λ e. (is_loser log (txn_of e) ≡ true) × (is_empty (left_open log (txn_of e)) ≡ false)) each_waits (pending log)
      (all_filter (λ e. list_any (is_of (txn_of e)) log ≡ true) (waits log) log (all_own log)) (all_passed (waits log) log)

  undo_few : (from to : ℕ) → IsInOrder from log to → records_in (undo_work log) ≤ owed log
  undo_few from to order =
      let us = reverse (pending log) in
      let unfinished = all_reverse (λ e. is_loser log (txn_of e) ≡ true) (pending log) (all_weaker _ (λ e. is_loser log (txn_of e) ≡ true) (λ e is. is.0) (pending log) all_wait) in
      let left = all_reverse (λ e. is_empty (left_open log (txn_of e)) ≡ false) (pending log) (all_weaker _ (λ e. is_empty (left_open log (txn_of e)) ≡ false) (λ e is. is.1) (pending log) all_wait) in
      omega (arith, records_join (replicate (length (only_ends log)) (logged 9)) (undoing_work us), ended_first (length (only_ends log)), ends_counted, undoing_few us, length-reverse (pending log), pending_left log chains from to order, firsts_few us unfinished, each_owes us left)
    where
      ended_first : (n : ℕ) → records_in (replicate n (logged 9)) ≡ n
      ended_first zero = refl
      ended_first (suc n) = omega (arith, ended_first n)

-- Only the checkpoint saves.

undoing_saves : (us : List Entry) → saves_in (undoing_work us) ≡ 0
undoing_saves [] = refl
undoing_saves (u ∷ earlier) =
    let one = after_it (list_any (is_of (txn_of u)) earlier) in
    omega (arith, one, clr_none (before_of u.rec) (number_of u.rec), undoing_saves earlier, saves_join (undoing_one u earlier) (undoing_work earlier), saves_join (clr_work u) (if list_any (is_of (txn_of u)) earlier then [] else ends))
  where
    clr_none : (before : Content) (number : Option ℕ) → saves_in (clr_on before number) ≡ 0
    clr_none before None = refl
    clr_none before (Some number) = refl

    after_it : (b : Bool) → saves_in (if b then [] else ends) ≡ 0
    after_it true = refl
    after_it false = refl

undo_saves : (log : List Entry) → saves_in (undo_work log) ≡ 0
undo_saves log = omega (arith, saves_join (replicate (length (only_ends log)) (logged 9)) (undoing_work (reverse (pending log))), ended_first (length (only_ends log)), undoing_saves (reverse (pending log)))
  where
    ended_first : (n : ℕ) → saves_in (replicate n (logged 9)) ≡ 0
    ended_first zero = refl
    ended_first (suc n) = ended_first n

pub restarts_log_few : RestartsLogFew
restarts_log_few p sound =
    let redo = cached_logs (filter_map (redo_touch p) (from_block p.master.redo p.log)) in
    let undo = undo_few p.log sound.losers_can_be_undone (512 * p.master.kept) (512 * p.hi) sound.in_order in
    let before = redo_work p ++ undo_work p.log in
    let logs : records_in (restart_work p) ≡ records_in before + records_in saves = records_join before saves in
    let all : saves_in (restart_work p) ≡ saves_in before + saves_in saves = saves_join before saves in
    (omega (arith, redo.0, undo, logs, records_join (redo_work p) (undo_work p.log)), omega (arith, redo.1, undo_saves p.log, all, saves_join (redo_work p) (undo_work p.log)))
