-- The table by the log alone, and what remains to be undone.
use Rattle.analysis.proofs.Names.{◌≡◌, ◌⊎◌, inl, inr, ℕ, ◌*◌, ◌==◌, ◌&&◌, not, Bool, true, false, nat_le, List, [], ◌∷◌, ◌++◌, Some, None, refl, sym, ap, subst, ◌∙◌, arith, true≢false, cond-true, cond-false, eq-eqb, and_parts, le-leb, leb-true, or_left, or_right, or_cases, false_from_ne_true, and_from, filter-append, list_any, AllByRecursion, filter, has_begun, is_active, open_at, open_in, is_named, is_taken, taken, TakenTable, TakenPending, AllAreTaken, Entry, txn_of, is_of, is_update, is_closing, is_closed, is_loser, LogicalImage, IsSound, is_known, is_begin, left_open, LogRecord, Begin, and_false, any_between}
use Rattle.analysis.proofs.Unfinished.{begins_as, table_of_unfinished}
use Rattle.analysis.proofs.Pending.{IsIn, all_in}
use Rattle.analysis.proofs.Taking.{any_chosen, any_left, active_new}
use Rattle.analysis.proofs.Takes.{all_map, own_any, chain, begun, open_still, all_taken, entries_taken, taken_is_loser}

-- by the log alone the active transactions are the losers
active_by_log : (p : LogicalImage) (sound : IsSound p) (t : ℕ) → is_active [] p.log t ≡ is_loser p.log t
active_by_log p sound t = by (is_active [] p.log t) (is_loser p.log t) refl refl
  where
    by : (a b : Bool) → is_active [] p.log t ≡ a → is_loser p.log t ≡ b → is_active [] p.log t ≡ is_loser p.log t
    by true true is loser = is ∙ sym loser
    by true false is loser =
        let parts = and_parts (is_known [] p.log t) (not (is_closed p.log t)) is in
        absurd (true≢false (sym (and_from (list_any (is_of t) p.log) (not (is_closed p.log t)) (own_any t p.log parts.0) parts.1) ∙ loser))
    by false true is loser = absurd (true≢false (sym (and_from (is_known [] p.log t) (not (is_closed p.log t)) (begun p sound t loser) (ap not (open_still p sound t loser))) ∙ is))
    by false false is loser = is ∙ sym loser

-- of a loser the log says what is taken of it
same_open : (p : LogicalImage) (sound : IsSound p) (t : ℕ) → is_loser p.log t ≡ true → open_at [] p.log t ≡ open_at p.master.active (taken p) t
same_open p sound t loser = grind (arith, chain, entries_taken)

pub taken_table : TakenTable
taken_table p sound =
    let whole = table_of_unfinished [] p.log (512 * p.master.kept) (512 * p.hi) tt sound.in_order in
    record { ascend = whole.ascend; says = λ t. whole.says t ∙ says t (is_loser p.log t) refl }
  where
    says : (t : ℕ) (b : Bool) → is_loser p.log t ≡ b → open_in [] p.log t ≡ open_in p.master.active (taken p) t
    says t true loser =
        cond-true (is_active [] p.log t) (Some (open_at [] p.log t)) None (active_by_log p sound t ∙ loser) ∙ ap Some (same_open p sound t loser)
        ∙ sym (cond-true (is_active p.master.active (taken p) t) (Some (open_at p.master.active (taken p) t)) None (taken_is_loser p t sound ∙ loser))
    says t false loser =
        cond-false (is_active [] p.log t) (Some (open_at [] p.log t)) None (active_by_log p sound t ∙ loser)
        ∙ sym (cond-false (is_active p.master.active (taken p) t) (Some (open_at p.master.active (taken p) t)) None (taken_is_loser p t sound ∙ loser))

-- Where redo begins with the first block.

filter_all_pass : (test : Entry → Bool) (xs : List Entry) → ((x : Entry) → test x ≡ true) → filter test xs ≡ xs
filter_all_pass test [] h = refl
filter_all_pass test (x ∷ xs) h = cond-true (test x) (x ∷ filter test xs) (filter test xs) (h x) ∙ ap (λ (l : List Entry). x ∷ l) (filter_all_pass test xs h)

pub all_are_taken : AllAreTaken
all_are_taken p sound first =
    filter_all_pass (is_taken p.master) p.log (λ x. or_left (nat_le (512 * p.master.redo) x.lsn) (is_named p.master.active (txn_of x)) (le-leb (512 * p.master.redo) x.lsn (omega (arith, first))))

-- What remains to be undone.

abbrev remains_in : List Entry → Entry → Bool
remains_in records e = is_update e.rec && not (is_closed records (txn_of e)) && list_any (λ u. u.lsn == e.lsn) (left_open records (txn_of e))

filter_same : (test a b : Entry → Bool) (xs : List Entry) → AllByRecursion (λ x. (test x ≡ true → a x ≡ b x) × (test x ≡ false → b x ≡ false)) xs → filter a (filter test xs) ≡ filter b xs
filter_same test a b [] h = refl
filter_same test a b (x ∷ xs) h = grind (arith, cond-false, (filter_same test a b xs h.1))

at_one : (P : Entry → Type 0) (front : List Entry) (x : Entry) (back : List Entry) → AllByRecursion P (front ++ x ∷ back) → P x
at_one P [] x back h = h.0
at_one P (y ∷ front) x back h = at_one P front x back h.1

update_is_no_begin : (rec : LogRecord) → is_update rec ≡ true → is_begin rec ≡ false
update_is_no_begin Begin h = absurd (true≢false (sym h))
update_is_no_begin _ h = refl

-- a conjunction that fails where its first part holds
second_fails : (a c : Bool) → a ≡ true → (a && not c) ≡ false → c ≡ true
second_fails true true is h = refl
second_fails true false is h = absurd (true≢false h)
second_fails false c is h = absurd (true≢false (sym is))

-- nothing of a closed transaction remains
none_of_closed : (records : List Entry) (x : Entry) → is_closed records (txn_of x) ≡ true → remains_in records x ≡ false
none_of_closed records x closed = grind (arith, and_false)

module _ (p : LogicalImage) (sound : IsSound p) (x : Entry) (at : IsIn p.log x) where
  -- of a loser
  module _ (loser : is_loser p.log (txn_of x) ≡ true) where
    is_there : is_taken p.master x ≡ true
    is_there = at_one (λ y. is_of (txn_of x) y ≡ true → is_taken p.master y ≡ true) at.front x at.back (subst (AllByRecursion (λ y. is_of (txn_of x) y ≡ true → is_taken p.master y ≡ true)) at.is (all_taken p sound (txn_of x) loser)) (eq-eqb (txn_of x) (txn_of x) refl)

    open_there_too : is_closed (taken p) (txn_of x) ≡ false
    open_there_too = false_from_ne_true (is_closed (taken p) (txn_of x)) (λ h. true≢false (sym (any_chosen (λ y. is_of (txn_of x) y && is_closing y.rec) (is_taken p.master) p.log h) ∙ open_still p sound (txn_of x) loser))

    remains_same : remains_in (taken p) x ≡ remains_in p.log x
    remains_same = grind (arith, open_there_too, open_still, entries_taken)

  -- of another transaction
  module _ (none : is_loser p.log (txn_of x) ≡ false) where
    closed_in_log : is_closed p.log (txn_of x) ≡ true
    closed_in_log = second_fails (list_any (is_of (txn_of x)) p.log) (is_closed p.log (txn_of x))
        (ap (list_any (is_of (txn_of x))) at.is ∙ any_between (is_of (txn_of x)) at.front x at.back (eq-eqb (txn_of x) (txn_of x) refl)) none

    known_taken : is_taken p.master x ≡ true → is_update x.rec ≡ true → is_known p.master.active (taken p) (txn_of x) ≡ true
    known_taken here update = by (or_cases (nat_le (512 * p.master.redo) x.lsn) (is_named p.master.active (txn_of x)) here)
      where
        front_taken : has_begun (filter (is_taken p.master) at.front) (txn_of x) ≡ true → has_begun (taken p) (txn_of x) ≡ true
        front_taken begins =
            ap (λ (l : List Entry). has_begun (filter (is_taken p.master) l) (txn_of x)) at.is ∙ ap (λ (l : List Entry). has_begun l (txn_of x)) (filter-append (is_taken p.master) at.front (x ∷ at.back))
            ∙ any_left (begins_as (txn_of x)) (filter (is_taken p.master) at.front) (filter (is_taken p.master) (x ∷ at.back)) begins

        known_front : (is_named p.master.active (txn_of x) ≡ true) ⊎ (has_begun (filter (is_taken p.master) at.front) (txn_of x) ≡ true) → is_known p.master.active (taken p) (txn_of x) ≡ true
        known_front (inl named) = or_left (is_named p.master.active (txn_of x)) (has_begun (taken p) (txn_of x)) named
        known_front (inr begins) = or_right (is_named p.master.active (txn_of x)) (has_begun (taken p) (txn_of x)) (front_taken begins)

        by : (nat_le (512 * p.master.redo) x.lsn ≡ true) ⊎ (is_named p.master.active (txn_of x) ≡ true) → is_known p.master.active (taken p) (txn_of x) ≡ true
        by (inl late) =
            let active = active_new p sound at.front x at.back at.is (leb-true (512 * p.master.redo) x.lsn late) (update_is_no_begin x.rec update) in
            known_front (or_cases (is_named p.master.active (txn_of x)) (has_begun (filter (is_taken p.master) at.front) (txn_of x))
            (and_parts (is_known p.master.active (filter (is_taken p.master) at.front) (txn_of x)) (not (is_closed (filter (is_taken p.master) at.front) (txn_of x))) active).0)
        by (inr named) = or_left (is_named p.master.active (txn_of x)) (has_begun (taken p) (txn_of x)) named

    none_taken : is_taken p.master x ≡ true → remains_in (taken p) x ≡ false
    none_taken here = grind (arith, none_of_closed, second_fails, known_taken, taken_is_loser)

  each_remains : (b : Bool) → is_loser p.log (txn_of x) ≡ b → (is_taken p.master x ≡ true → remains_in (taken p) x ≡ remains_in p.log x) × (is_taken p.master x ≡ false → remains_in p.log x ≡ false)
  each_remains true loser = ((λ here. remains_same loser), (λ gone. absurd (true≢false (sym (is_there loser) ∙ gone))))
  each_remains false none = ((λ here. none_taken none here ∙ sym (none_of_closed p.log x (closed_in_log none))), (λ gone. none_of_closed p.log x (closed_in_log none)))

pub taken_pending : TakenPending
taken_pending p sound =
    filter_same (is_taken p.master) (remains_in (taken p)) (remains_in p.log) p.log
    (all_map (IsIn p.log) (λ x. (is_taken p.master x ≡ true → remains_in (taken p) x ≡ remains_in p.log x) × (is_taken p.master x ≡ false → remains_in p.log x ≡ false))
    (λ x at. each_remains p sound x at (is_loser p.log (txn_of x)) refl) p.log (all_in p.log [] p.log refl))
