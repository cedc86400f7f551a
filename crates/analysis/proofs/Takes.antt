-- The unfinished transactions of a sound log, and its commits, by what a restart takes of it.
use Rattle.std.proofs.lemmas.Grind.{common_steps}
use Rattle.analysis.proofs.Names.{◌≡◌, ◌⊎◌, inl, inr, ℕ, ◌+◌, ◌*◌, ◌<◌, ◌≤◌, ◌==◌, ◌&&◌, ◌||◌, not, Bool, true, false, nat_lt, nat_le, List, [], ◌∷◌, length, drop, Some, refl, sym, ap, subst, ◌∙◌, arith, true≢false, eqb-true, eq-eqb, and_parts, lt-ltb, leb-true, leb-false, le-leb, cases_lt, or_left, or_right, or_cases, false_from_ne_true, and_from, none-some, list_any, AllByRecursion, filter, has_begun, is_active, is_named, is_taken, taken, TakenEntries, TakenIsLoser, TakenCommits, Entry, txn_of, is_of, is_closing, is_closed, entries_of, is_loser, Master, LogicalImage, IsSound, IsInOrder, IsLoserChain, is_known, before_block, commit_number, commit_number_by, commit_numbers, is_begin, LogRecord, Begin, Commit, all_filter_passed}
use Rattle.analysis.proofs.Unfinished.{begins_as}
use Rattle.analysis.proofs.Pending.{order_filter, order_above}
use Rattle.analysis.proofs.Taking.{any_chosen, HasOne, one_of, begin_of, named_is, named_parts}

-- Lists.

-- of what is chosen all holds, so of all it holds where it is chosen
chosen_all : (P : Entry → Type 0) (q : Entry → Bool) (xs : List Entry) → AllByRecursion P (filter q xs) → AllByRecursion (λ x. q x ≡ true → P x) xs
chosen_all P q [] h = tt
chosen_all P q (x ∷ xs) h = grind (arith, (chosen_all P q xs))

pub all_map : (P Q : Entry → Type 0) → ((x : Entry) → P x → Q x) → (xs : List Entry) → AllByRecursion P xs → AllByRecursion Q xs
all_map P Q f [] h = tt
all_map P Q f (x ∷ xs) h = (f x h.0, all_map P Q f xs h.1)

-- a choice that takes all that passes a test
any_kept : (q test : Entry → Bool) (xs : List Entry) → AllByRecursion (λ x. q x ≡ true → test x ≡ true) xs → list_any q xs ≡ true → list_any q (filter test xs) ≡ true
any_kept q test [] all h = h
any_kept q test (x ∷ xs) all h = grind (arith, common_steps, (any_kept q test xs all.1))

filter_kept : (q test : Entry → Bool) (xs : List Entry) → AllByRecursion (λ x. q x ≡ true → test x ≡ true) xs → filter q (filter test xs) ≡ filter q xs
filter_kept q test [] all = refl
filter_kept q test (x ∷ xs) all = grind (arith, common_steps, (filter_kept q test xs all.1))

-- one that passes and isn't chosen
any_lost : (P : Entry → Type 0) (q test : Entry → Bool) (xs : List Entry) → AllByRecursion P xs → list_any q xs ≡ true → list_any q (filter test xs) ≡ false → HasOne (λ x. P x × (test x ≡ false)) q
any_lost P q test [] all h none = absurd (true≢false (sym h))
any_lost P q test (x ∷ xs) all h none = grind (arith, or_cases, (any_lost P q test xs all.1))

-- none passes of those that are chosen
none_chosen : (q test : Entry → Bool) (xs : List Entry) → list_any q (filter test xs) ≡ false → AllByRecursion (λ x. test x ≡ true → q x ≡ false) xs
none_chosen q test [] h = tt
none_chosen q test (x ∷ xs) h = grind (arith, (none_chosen q test xs))

-- what holds of each record for every number holds for its own transaction
pub each_own : (P : ℕ → Entry → Type 0) (xs : List Entry) → ((t : ℕ) → AllByRecursion (P t) xs) → AllByRecursion (λ x. P (txn_of x) x) xs
each_own P [] h = tt
each_own P (x ∷ xs) h = ((h (txn_of x)).0, each_own P xs (λ t. (h t).1))

pub given_all : (A : Type 0) (P : Entry → Type 0) (xs : List Entry) → (A → AllByRecursion P xs) → AllByRecursion (λ x. A → P x) xs
given_all A P [] h = tt
given_all A P (x ∷ xs) h = ((λ a. (h a).0), given_all A P xs (λ a. (h a).1))

pub own_begin : (t : ℕ) (x : Entry) → begins_as t x ≡ true → is_of t x ≡ true
own_begin t x h = grind (arith, common_steps)

pub own_any : (t : ℕ) (xs : List Entry) → list_any (begins_as t) xs ≡ true → list_any (is_of t) xs ≡ true
own_any t [] h = h
own_any t (x ∷ xs) h = elim (or_cases (begins_as t x) (list_any (begins_as t) xs) h) [ inl here ↦ or_left (is_of t x) (list_any (is_of t) xs) (own_begin t x here) | inr later ↦ or_right (is_of t x) (list_any (is_of t) xs) (own_any t xs later) ]

module _ (p : LogicalImage) (sound : IsSound p) where
  abbrev m : Master
  m = p.master

  abbrev redo_at : ℕ
  redo_at = 512 * m.redo

  abbrev old : List Entry
  old = before_block m.redo p.log

  still_open : (t : ℕ) → is_closed p.log t ≡ false → is_closed old t ≡ false
  still_open t h = false_from_ne_true (is_closed old t) (λ closed. true≢false (sym (any_chosen (λ x. is_of t x && is_closing x.rec) (λ x. nat_lt x.lsn redo_at) p.log closed) ∙ h))

  -- a transaction that began before the redo block and wasn't closed there is named
  named_if : (t : ℕ) → has_begun p.log t ≡ true → t < redo_at → is_closed old t ≡ false → is_named m.active t ≡ true
  named_if t begun less open_still =
      let all : AllByRecursion (λ x. begins_as t x ≡ true → nat_lt x.lsn redo_at ≡ true) p.log = low p.log in
      named_is p sound t ∙ and_from (has_begun old t) (not (is_closed old t)) (any_kept (begins_as t) (λ x. nat_lt x.lsn redo_at) p.log all begun) (ap not open_still)
    where
      low : (xs : List Entry) → AllByRecursion (λ x. begins_as t x ≡ true → nat_lt x.lsn redo_at ≡ true) xs
      low [] = tt
      low (x ∷ xs) = ((λ h. lt-ltb x.lsn redo_at (let same = eqb-true x.lsn t (and_parts (is_begin x.rec) (x.lsn == t) h).1 in omega (arith, same, less))), low xs)

  module _ (t : ℕ) (loser : is_loser p.log t ≡ true) where
    abbrev parts : (list_any (is_of t) p.log ≡ true) × (not (is_closed p.log t) ≡ true)
    parts = and_parts (list_any (is_of t) p.log) (not (is_closed p.log t)) loser

    pub open_still : is_closed p.log t ≡ false
    open_still = false_from_ne_true (is_closed p.log t) (λ h. true≢false (sym parts.1 ∙ ap not h))

    pub chain : IsLoserChain t (entries_of t p.log)
    chain = sound.losers_can_be_undone t loser

    pub begun : has_begun p.log t ≡ true
    begun = any_chosen (begins_as t) (is_of t) p.log (ap (list_any (begins_as t)) chain.begins ∙ ap (λ b. b || list_any (begins_as t) (drop 1 (entries_of t p.log))) (eq-eqb t t refl))

    all_above : AllByRecursion (λ x. t ≤ x.lsn) (entries_of t p.log)
    all_above =
        let order = order_filter (is_of t) (512 * m.kept) (512 * p.hi) p.log sound.in_order in
        let first : IsInOrder (512 * m.kept) (record { lsn = t; rec = Begin } ∷ drop 1 (entries_of t p.log)) (512 * p.hi) = subst (λ (l : List Entry). IsInOrder (512 * m.kept) l (512 * p.hi)) chain.begins order in
        subst (AllByRecursion (λ x. t ≤ x.lsn)) (sym chain.begins)
        (omega arith, all_map (λ x. t < x.lsn) (λ x. t ≤ x.lsn) (λ x less. omega (arith, less)) (drop 1 (entries_of t p.log)) (order_above (t + 1) (512 * p.hi) t (drop 1 (entries_of t p.log)) (omega arith) first.1))

    -- all its records are taken
    pub all_taken : AllByRecursion (λ x. is_of t x ≡ true → is_taken m x ≡ true) p.log
    all_taken = all_map (λ x. is_of t x ≡ true → t ≤ x.lsn) (λ x. is_of t x ≡ true → is_taken m x ≡ true) (λ x above own. takes x own (above own) (cases_lt x.lsn redo_at)) p.log (chosen_all (λ x. t ≤ x.lsn) (is_of t) p.log all_above)
      where
        takes : (x : Entry) → is_of t x ≡ true → t ≤ x.lsn → (x.lsn < redo_at) ⊎ (redo_at ≤ x.lsn) → is_taken m x ≡ true
        takes x own above (inl less) =
            or_right (nat_le redo_at x.lsn) (is_named m.active (txn_of x)) (ap (is_named m.active) (eqb-true (txn_of x) t own) ∙ named_if t begun (omega (arith, above, less)) (still_open t open_still))
        takes x own above (inr late) = or_left (nat_le redo_at x.lsn) (is_named m.active (txn_of x)) (le-leb redo_at x.lsn late)

    pub entries_taken : entries_of t (taken p) ≡ entries_of t p.log
    entries_taken = filter_kept (is_of t) (is_taken m) p.log all_taken

    pub loser_active : is_active m.active (taken p) t ≡ true
    loser_active =
        let known : has_begun (taken p) t ≡ true = any_kept (begins_as t) (is_taken m) p.log (all_map (λ x. is_of t x ≡ true → is_taken m x ≡ true) (λ x. begins_as t x ≡ true → is_taken m x ≡ true) (λ x take h. take (own_begin t x h)) p.log all_taken) begun in
        let none : is_closed (taken p) t ≡ false = false_from_ne_true (is_closed (taken p) t) (λ h. true≢false (sym (any_chosen (λ x. is_of t x && is_closing x.rec) (is_taken m) p.log h) ∙ open_still)) in
        and_from (is_known m.active (taken p) t) (not (is_closed (taken p) t)) (or_right (is_named m.active t) (has_begun (taken p) t) known) (ap not none)

  module _ (t : ℕ) (active : is_active m.active (taken p) t ≡ true) where
    known_parts : (is_known m.active (taken p) t ≡ true) × (not (is_closed (taken p) t) ≡ true)
    known_parts = and_parts (is_known m.active (taken p) t) (not (is_closed (taken p) t)) active

    not_closed : is_closed (taken p) t ≡ false
    not_closed = false_from_ne_true (is_closed (taken p) t) (λ h. true≢false (sym known_parts.1 ∙ ap not h))

    begun_there : has_begun p.log t ≡ true
    begun_there = by (or_cases (is_named m.active t) (has_begun (taken p) t) known_parts.0)
      where
        by : (is_named m.active t ≡ true) ⊎ (has_begun (taken p) t ≡ true) → has_begun p.log t ≡ true
        by (inl named) = any_chosen (begins_as t) (λ x. nat_lt x.lsn redo_at) p.log (named_parts p sound t named).begun
        by (inr taken_begun) = any_chosen (begins_as t) (is_taken m) p.log taken_begun

    -- where it began before the redo block it is named
    named_low : t < redo_at → is_named m.active t ≡ true
    named_low less = by (or_cases (is_named m.active t) (has_begun (taken p) t) known_parts.0)
      where
        begin_named : (x : Entry) → is_taken m x ≡ true → begins_as t x ≡ true → is_named m.active t ≡ true
        begin_named x here begins = in_it (or_cases (nat_le redo_at x.lsn) (is_named m.active (txn_of x)) here)
          where
            same : x.lsn ≡ t
            same = eqb-true x.lsn t (and_parts (is_begin x.rec) (x.lsn == t) begins).1

            in_it : (nat_le redo_at x.lsn ≡ true) ⊎ (is_named m.active (txn_of x) ≡ true) → is_named m.active t ≡ true
            in_it (inl late) = absurd (let high = leb-true redo_at x.lsn late in omega (arith, high, same, less))
            in_it (inr named) = ap (is_named m.active) (sym (begin_of x.rec x.lsn (and_parts (is_begin x.rec) (x.lsn == t) begins).0 ∙ same)) ∙ named

        by : (is_named m.active t ≡ true) ⊎ (has_begun (taken p) t ≡ true) → is_named m.active t ≡ true
        by (inl named) = named
        by (inr begins) =
            let one = one_of (λ x. (x.lsn ≡ x.lsn) × (is_taken m x ≡ true)) (begins_as t) (taken p) (all_filter_passed (λ x. x.lsn ≡ x.lsn) (is_taken m) p.log (each p.log)) begins in
            begin_named one.x one.holds.1 one.passes
          where
            each : (xs : List Entry) → AllByRecursion (λ x. x.lsn ≡ x.lsn) xs
            each [] = tt
            each (x ∷ xs) = (refl, each xs)

    -- what closes it is taken
    open_in_log : is_closed p.log t ≡ false
    open_in_log = false_from_ne_true (is_closed p.log t) (λ h.
        let lost = any_lost (λ x. txn_of x ≤ x.lsn) (λ x. is_of t x && is_closing x.rec) (is_taken m) p.log sound.begun h not_closed in
        let own = eqb-true (txn_of lost.x) t (and_parts (is_of t lost.x) (is_closing lost.x.rec) lost.passes).0 in
        let above = lost.holds.0 in
        let late : nat_le redo_at lost.x.lsn ≡ false = false_from_ne_true (nat_le redo_at lost.x.lsn) (λ yes. true≢false (sym (or_left (nat_le redo_at lost.x.lsn) (is_named m.active (txn_of lost.x)) yes) ∙ lost.holds.1)) in
        let less = leb-false redo_at lost.x.lsn late in
        true≢false (sym (or_right (nat_le redo_at lost.x.lsn) (is_named m.active (txn_of lost.x)) (ap (is_named m.active) own ∙ named_low (omega (arith, own, above, less)))) ∙ lost.holds.1))

    pub active_loser : is_loser p.log t ≡ true
    active_loser =
        and_from (list_any (is_of t) p.log) (not (is_closed p.log t)) (own_any t p.log begun_there) (ap not open_in_log)

pub taken_entries : TakenEntries
taken_entries p t sound loser = entries_taken p sound t loser

pub taken_is_loser : TakenIsLoser
taken_is_loser p t sound = grind (arith, active_loser, loser_active)

-- Commits.

commit_closes : (rec : LogRecord) (n : ℕ) → commit_number_by rec ≡ Some n → is_closing rec ≡ true
commit_closes (Commit txn number) n h = refl
commit_closes _ n h = absurd (none-some n h)

same_commits : (a b : Entry → Bool) (xs : List Entry) → AllByRecursion (λ x. (n : ℕ) → commit_number x ≡ Some n → a x ≡ b x) xs → commit_numbers (filter a xs) ≡ commit_numbers (filter b xs)
same_commits a b [] h = refl
same_commits a b (x ∷ xs) h = grind (arith, (same_commits a b xs h.1))

module _ (p : LogicalImage) (sound : IsSound p) where
  -- a record before the redo block of a transaction that wasn't closed there doesn't close it
  none_closes : AllByRecursion (λ x. is_closed (before_block p.master.redo p.log) (txn_of x) ≡ false → nat_lt x.lsn (512 * p.master.redo) ≡ true → (is_of (txn_of x) x && is_closing x.rec) ≡ false) p.log
  none_closes =
      each_own (λ t x. is_closed (before_block p.master.redo p.log) t ≡ false → nat_lt x.lsn (512 * p.master.redo) ≡ true → (is_of t x && is_closing x.rec) ≡ false) p.log (λ t.
      given_all (is_closed (before_block p.master.redo p.log) t ≡ false) (λ x. nat_lt x.lsn (512 * p.master.redo) ≡ true → (is_of t x && is_closing x.rec) ≡ false) p.log
      (none_chosen (λ x. is_of t x && is_closing x.rec) (λ x. nat_lt x.lsn (512 * p.master.redo)) p.log))

  -- so a Commit is taken exactly where it stands from there on
  commits_late : AllByRecursion (λ x. (n : ℕ) → commit_number x ≡ Some n → is_taken p.master x ≡ nat_le (512 * p.master.redo) x.lsn) p.log
  commits_late = all_map (λ x. is_closed (before_block p.master.redo p.log) (txn_of x) ≡ false → nat_lt x.lsn (512 * p.master.redo) ≡ true → (is_of (txn_of x) x && is_closing x.rec) ≡ false)
      (λ x. (n : ℕ) → commit_number x ≡ Some n → is_taken p.master x ≡ nat_le (512 * p.master.redo) x.lsn) late p.log none_closes
    where
      or_none : (a b : Bool) → b ≡ false → (a || b) ≡ a
      or_none true b h = refl
      or_none false b h = h

      late : (x : Entry) → (is_closed (before_block p.master.redo p.log) (txn_of x) ≡ false → nat_lt x.lsn (512 * p.master.redo) ≡ true → (is_of (txn_of x) x && is_closing x.rec) ≡ false) →
          (n : ℕ) → commit_number x ≡ Some n → is_taken p.master x ≡ nat_le (512 * p.master.redo) x.lsn
      late x none n commit = by (nat_le (512 * p.master.redo) x.lsn) refl
        where
          not_named : nat_le (512 * p.master.redo) x.lsn ≡ false → is_named p.master.active (txn_of x) ≡ false
          not_named early = false_from_ne_true (is_named p.master.active (txn_of x)) (λ named.
              true≢false (sym (and_from (is_of (txn_of x) x) (is_closing x.rec) (eq-eqb (txn_of x) (txn_of x) refl) (commit_closes x.rec n commit))
              ∙ none (named_parts p sound (txn_of x) named).not_closed (lt-ltb x.lsn (512 * p.master.redo) (leb-false (512 * p.master.redo) x.lsn early))))

          by : (b : Bool) → nat_le (512 * p.master.redo) x.lsn ≡ b → is_taken p.master x ≡ nat_le (512 * p.master.redo) x.lsn
          by true is = or_left (nat_le (512 * p.master.redo) x.lsn) (is_named p.master.active (txn_of x)) is ∙ sym is
          by false is = or_none (nat_le (512 * p.master.redo) x.lsn) (is_named p.master.active (txn_of x)) (not_named is)

pub taken_commits : TakenCommits
taken_commits p sound =
    ap (λ (l : List ℕ). p.master.commits + length l) (same_commits (is_taken p.master) (λ e. nat_le (512 * p.master.redo) e.lsn) p.log (commits_late p sound))
