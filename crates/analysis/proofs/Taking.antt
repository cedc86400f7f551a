-- The records that a restart takes of a sound log.
use Rattle.std.proofs.lemmas.Grind.{common_steps}
use Rattle.analysis.proofs.Names.{◌≡◌, ◌⊎◌, inl, inr, ℕ, ◌+◌, ◌*◌, ◌<◌, ◌≤◌, ◌==◌, ◌&&◌, ◌||◌, not, Bool, true, false, cond, nat_lt, nat_le, List, [], ◌∷◌, ◌++◌, length, map, refl, sym, ap, subst, ◌∙◌, arith, append_assoc, append-nil, true≢false, cond-true, cond-false, eqb-true, eq-eqb, and_parts, lt-ltb, leb-true, cases_lt, or_left, or_right, or_cases, false_from_ne_true, and_from, filter-append, list_any, AllByRecursion, filter, has_begun, HaveBegun, is_active, is_named, is_taken, taken, Steps, StepsOn, TakenInOrder, TakenBegin, closing_is_no_begin, in_order_least, Entry, txn_of, txn_by, is_of, is_closing, is_closed, entries_of, Active, Master, LogicalImage, IsSound, IsInOrder, IsOfOpenTransaction, InTurn, is_known, before_block, from_block, last_lsn, is_begin, losers, LogRecord, Begin, all_push, all_filter_passed}
use Rattle.analysis.proofs.Unfinished.{begins_as, listed_is}
use Rattle.analysis.proofs.Pending.{order_filter}

-- Tests over lists.

-- what passes a test in chosen items passes it in all
pub any_chosen : (q test : Entry → Bool) (xs : List Entry) → list_any q (filter test xs) ≡ true → list_any q xs ≡ true
any_chosen q test [] h = h
any_chosen q test (x ∷ xs) h = grind (arith, common_steps, (any_chosen q test xs))

-- and in more chosen items
any_more_chosen : (q first second : Entry → Bool) → ((x : Entry) → first x ≡ true → second x ≡ true) → (xs : List Entry) → list_any q (filter first xs) ≡ true → list_any q (filter second xs) ≡ true
any_more_chosen q first second more [] h = h
any_more_chosen q first second more (x ∷ xs) h = grind (arith, common_steps, (any_more_chosen q first second more xs))

pub any_left : (q : Entry → Bool) (xs ys : List Entry) → list_any q xs ≡ true → list_any q (xs ++ ys) ≡ true
any_left q [] ys h = absurd (true≢false (sym h))
any_left q (x ∷ xs) ys h = elim (or_cases (q x) (list_any q xs) h) [ inl here ↦ or_left (q x) (list_any q (xs ++ ys)) here | inr later ↦ or_right (q x) (list_any q (xs ++ ys)) (any_left q xs ys later) ]

-- an item that passes a test, with what holds of each
pub record HasOne (P : Entry → Type 0) (q : Entry → Bool) : Type 0 where
  pub x : Entry
  pub holds : P x
  pub passes : q x ≡ true

pub one_of : (P : Entry → Type 0) (q : Entry → Bool) (xs : List Entry) → AllByRecursion P xs → list_any q xs ≡ true → HasOne P q
one_of P q [] all h = absurd (true≢false (sym h))
one_of P q (x ∷ xs) all h = elim (or_cases (q x) (list_any q xs) h) [ inl here ↦ record { x = x; holds = all.0; passes = here } | inr later ↦ one_of P q xs all.1 later ]

-- A chosen item among all.

record IsChosen (test : Entry → Bool) (xs earlier : List Entry) (e : Entry) : Type 0 where
  front : List Entry
  back : List Entry
  is : xs ≡ front ++ e ∷ back
  earlier_is : earlier ≡ filter test front
  here : test e ≡ true

head_of : (d : Entry) → List Entry → Entry
head_of d [] = d
head_of d (x ∷ xs) = x

tail_of : List Entry → List Entry
tail_of [] = []
tail_of (x ∷ xs) = xs

chosen : (test : Entry → Bool) (xs earlier : List Entry) (e : Entry) (rest : List Entry) → filter test xs ≡ earlier ++ e ∷ rest → IsChosen test xs earlier e
unfolding head_of tail_of
chosen test [] [] e rest split = absurd (let l = ap length split in omega (arith, l))
chosen test [] (y ∷ earlier) e rest split = absurd (let l = ap length split in omega (arith, l))
chosen test (x ∷ xs) earlier e rest split = by (test x) refl earlier split (λ (earlier : List Entry). chosen test xs earlier e rest)
  where
    by : (b : Bool) → test x ≡ b → (earlier : List Entry) → cond b (x ∷ filter test xs) (filter test xs) ≡ earlier ++ e ∷ rest →
        ((earlier : List Entry) → filter test xs ≡ earlier ++ e ∷ rest → IsChosen test xs earlier e) → IsChosen test (x ∷ xs) earlier e
    by true is [] split later =
        let same : x ≡ e = ap (head_of x) split in
        record { front = []; back = xs; is = ap (λ (y : Entry). y ∷ xs) same; earlier_is = refl; here = ap test (sym same) ∙ is }
    by true is (y ∷ earlier) split later =
        let same : x ≡ y = ap (head_of x) split in
        let more = later earlier (ap tail_of split) in
        record {
          front = x ∷ more.front;
          back = more.back;
          is = ap (λ (l : List Entry). x ∷ l) more.is;
          earlier_is = ap (λ (z : Entry). z ∷ earlier) (sym same) ∙ ap (λ (l : List Entry). x ∷ l) more.earlier_is ∙ sym (cond-true (test x) (x ∷ filter test more.front) (filter test more.front) is);
          here = more.here;
        }
    by false is earlier split later =
        let more = later earlier split in
        record {
          front = x ∷ more.front;
          back = more.back;
          is = ap (λ (l : List Entry). x ∷ l) more.is;
          earlier_is = more.earlier_is ∙ sym (cond-false (test x) (x ∷ filter test more.front) (filter test more.front) is);
          here = more.here;
        }

-- Order.

pub order_front : (from to : ℕ) (front : List Entry) (e : Entry) (back : List Entry) → IsInOrder from (front ++ e ∷ back) to → AllByRecursion (λ x. x.lsn < e.lsn) front
order_front from to [] e back order = tt
order_front from to (x ∷ front) e back order = (let below = in_order_least (x.lsn + 1) to front e back order.1 in omega (arith, below), order_front (x.lsn + 1) to front e back order.1)

-- the records before a block, where all of them stand before it
all_before : (n : ℕ) (xs : List Entry) → AllByRecursion (λ x. x.lsn < n) xs → filter (λ x. nat_lt x.lsn n) xs ≡ xs
all_before n [] h = refl
all_before n (x ∷ xs) h = cond-true (nat_lt x.lsn n) (x ∷ filter (λ y. nat_lt y.lsn n) xs) (filter (λ y. nat_lt y.lsn n) xs) (lt-ltb x.lsn n h.0) ∙ ap (λ (l : List Entry). x ∷ l) (all_before n xs h.1)

all_lower : (m n : ℕ) → m ≤ n → (xs : List Entry) → AllByRecursion (λ x. x.lsn < m) xs → AllByRecursion (λ x. x.lsn < n) xs
all_lower m n less [] h = tt
all_lower m n less (x ∷ xs) h = (omega (arith, h.0, less), all_lower m n less xs h.1)

pub in_turn_at : (P : List Entry → Entry → Type 0) (acc front : List Entry) (e : Entry) (back : List Entry) → InTurn P acc (front ++ e ∷ back) → P (acc ++ front) e
in_turn_at P acc [] e back h = subst (λ (l : List Entry). P l e) (sym (append-nil acc)) h.0
in_turn_at P acc (x ∷ front) e back h = subst (λ (l : List Entry). P l e) (append_assoc acc (x ∷ []) front) (in_turn_at P (acc ++ x ∷ []) front e back h.1)

begun_below : (n t : ℕ) (xs : List Entry) → list_any (begins_as t) (filter (λ x. nat_lt x.lsn n) xs) ≡ true → t < n
begun_below n t [] h = absurd (true≢false (sym h))
begun_below n t (x ∷ xs) h = grind (arith, common_steps, (begun_below n t xs))

-- a Begin is of the transaction that it begins
pub begin_of : (rec : LogRecord) (lsn : ℕ) → is_begin rec ≡ true → txn_by lsn rec ≡ lsn
begin_of Begin lsn h = refl
begin_of _ lsn h = absurd (true≢false (sym h))

-- Whom the master names.

any_named : (f : ℕ → ℕ) (ns : List ℕ) (t : ℕ) → is_named (map (λ n. record { begin = n; last = f n }) ns) t ≡ list_any (λ s. s == t) ns
any_named f [] t = refl
any_named f (n ∷ ns) t = ap (λ b. (n == t) || b) (any_named f ns t)

module _ (p : LogicalImage) (sound : IsSound p) where
  abbrev pub m : Master
  m = p.master

  abbrev pub old : List Entry
  old = before_block m.redo p.log

  -- it began before the redo block, and wasn't closed there
  pub named_is : (t : ℕ) → is_named m.active t ≡ (has_begun old t && not (is_closed old t))
  named_is t = ap (λ (l : List Active). is_named l t) sound.master_names_the_active ∙ any_named (λ n. last_lsn (entries_of n old)) (losers old) t ∙ listed_is old old t

  pub record IsNamed (t : ℕ) : Type 0 where
    pub begun : has_begun old t ≡ true
    pub not_closed : is_closed old t ≡ false
    pub low : t < 512 * m.redo

  pub named_parts : (t : ℕ) → is_named m.active t ≡ true → IsNamed t
  named_parts t named =
      let parts = and_parts (has_begun old t) (not (is_closed old t)) (sym (named_is t) ∙ named) in
      record { begun = parts.0; not_closed = false_from_ne_true (is_closed old t) (λ h. true≢false (sym parts.1 ∙ ap not h)); low = begun_below (512 * m.redo) t p.log parts.0 }

  -- a record in front of one that stands before the redo block stands before it too
  module _ (front : List Entry) (e : Entry) (back : List Entry) (is : p.log ≡ front ++ e ∷ back) where
    pub order : IsInOrder (512 * m.kept) (front ++ e ∷ back) (512 * p.hi)
    order = subst (λ (l : List Entry). IsInOrder (512 * m.kept) l (512 * p.hi)) is sound.in_order

    pub in_front : AllByRecursion (λ x. x.lsn < e.lsn) front
    in_front = order_front (512 * m.kept) (512 * p.hi) front e back order

    pub open_there : IsOfOpenTransaction m front e
    open_there = in_turn_at (IsOfOpenTransaction m) [] front e back (subst (InTurn (IsOfOpenTransaction m) []) is sound.open_transactions)

    old_is : e.lsn < 512 * m.redo → old ≡ front ++ filter (λ x. nat_lt x.lsn (512 * m.redo)) (e ∷ back)
    old_is less =
        ap (filter (λ x. nat_lt x.lsn (512 * m.redo))) is ∙ filter-append (λ x. nat_lt x.lsn (512 * m.redo)) front (e ∷ back)
        ∙ ap (λ (l : List Entry). l ++ filter (λ x. nat_lt x.lsn (512 * m.redo)) (e ∷ back)) (all_before (512 * m.redo) front (all_lower e.lsn (512 * m.redo) (omega (arith, less)) front in_front))

    -- none of what is taken before it closes it
    not_closed_taken : (t : ℕ) → is_closed front t ≡ false → is_closed (filter (is_taken m) front) t ≡ false
    not_closed_taken t none = false_from_ne_true (is_closed (filter (is_taken m) front) t) (λ h. true≢false (sym (any_chosen (λ x. is_of t x && is_closing x.rec) (is_taken m) front h) ∙ none))

    closed_by_old : (t : ℕ) → e.lsn < 512 * m.redo → is_closed old t ≡ false → is_closed front t ≡ false
    closed_by_old t less none = false_from_ne_true (is_closed front t) (λ h.
        true≢false (sym (any_left (λ x. is_of t x && is_closing x.rec) front (filter (λ x. nat_lt x.lsn (512 * m.redo)) (e ∷ back)) h) ∙ sym (ap (λ (l : List Entry). is_closed l t) (old_is less)) ∙ none))

    -- before the redo block
    step_old : e.lsn < 512 * m.redo → is_taken m e ≡ true → Steps m.active (filter (is_taken m) front) e
    step_old less here =
        let named : is_named m.active (txn_of e) ≡ true = by_named (or_cases (nat_le (512 * m.redo) e.lsn) (is_named m.active (txn_of e)) here) in
        let none : is_closed (filter (is_taken m) front) (txn_of e) ≡ false = not_closed_taken (txn_of e) (closed_by_old (txn_of e) less (named_parts (txn_of e) named).not_closed) in
        record {
          comes = λ begin. none;
          active = λ other. and_from (is_known m.active (filter (is_taken m) front) (txn_of e)) (not (is_closed (filter (is_taken m) front) (txn_of e)))
              (or_left (is_named m.active (txn_of e)) (has_begun (filter (is_taken m) front) (txn_of e)) named) (ap not none);
        }
      where
        by_named : (nat_le (512 * m.redo) e.lsn ≡ true) ⊎ (is_named m.active (txn_of e) ≡ true) → is_named m.active (txn_of e) ≡ true
        by_named (inl late) = absurd (let high = leb-true (512 * m.redo) e.lsn late in omega (arith, high, less))
        by_named (inr named) = named

    -- from the redo block on
    pub active_new : 512 * m.redo ≤ e.lsn → is_begin e.rec ≡ false → is_active m.active (filter (is_taken m) front) (txn_of e) ≡ true
    active_new late other = grind (arith, open_there, or_cases, and_from, not_closed_taken, or_left, or_right, any_more_chosen, nat_le)

    -- a Begin from there on: nothing taken before it closes its transaction
    module _ (late : 512 * m.redo ≤ e.lsn) where
      not_named : is_named m.active e.lsn ≡ true → ⊥
      not_named named = let low = (named_parts e.lsn named).low in omega (arith, low, late)

      not_begun : (xs : List Entry) → AllByRecursion (λ x. x.lsn < e.lsn) xs → has_begun (from_block m.redo xs) e.lsn ≡ true → ⊥
      not_begun xs h begun =
          let one = one_of (λ x. x.lsn < e.lsn) (begins_as e.lsn) xs h (any_chosen (begins_as e.lsn) (λ x. nat_le (512 * m.redo) x.lsn) xs begun) in
          let same = eqb-true one.x.lsn e.lsn (and_parts (is_begin one.x.rec) (one.x.lsn == e.lsn) one.passes).1 in
          let less = one.holds in omega (arith, same, less)

      record IsInFront (x : Entry) : Type 0 where
        before : List Entry
        low : AllByRecursion (λ y. y.lsn < e.lsn) before
        lives : IsOfOpenTransaction m before x

      all_in_front : (acc xs : List Entry) → InTurn (IsOfOpenTransaction m) acc (xs ++ e ∷ back) → AllByRecursion (λ y. y.lsn < e.lsn) acc → AllByRecursion (λ y. y.lsn < e.lsn) xs → AllByRecursion IsInFront xs
      all_in_front acc [] turns low h = tt
      all_in_front acc (x ∷ xs) turns low h = (record { before = acc; low = low; lives = turns.0 }, all_in_front (acc ++ x ∷ []) xs turns.1 (all_push (λ y. y.lsn < e.lsn) acc x low h.0) h.1)

      not_closing : (x : Entry) → IsInFront x → is_taken m x ≡ true → (is_of e.lsn x && is_closing x.rec) ≡ true → ⊥
      not_closing x in_it here closes = grind (arith, cases_lt, eqb-true, and_parts, closing_is_no_begin, not_named, not_begun, nat_le, leb-true, or_cases)

      fresh_new : is_closed (filter (is_taken m) front) e.lsn ≡ false
      fresh_new = false_from_ne_true (is_closed (filter (is_taken m) front) e.lsn) (λ h.
          let all = all_filter_passed IsInFront (is_taken m) front (all_in_front [] front (subst (InTurn (IsOfOpenTransaction m) []) is sound.open_transactions) tt in_front) in
          let one = one_of (λ x. IsInFront x × (is_taken m x ≡ true)) (λ x. is_of e.lsn x && is_closing x.rec) (filter (is_taken m) front) all h in
          not_closing one.x one.holds.0 one.holds.1 one.passes)

    step_there : is_taken m e ≡ true → Steps m.active (filter (is_taken m) front) e
    step_there here = grind (arith, cases_lt, step_old, begin_of, fresh_new, active_new)

pub steps_on : StepsOn
steps_on p earlier e rest sound split =
    let one = chosen (is_taken p.master) p.log earlier e rest split in
    subst (λ (l : List Entry). Steps p.master.active l e) (sym one.earlier_is) (step_there p sound one.front e one.back one.is one.here)

pub taken_in_order : TakenInOrder
taken_in_order p sound = order_filter (is_taken p.master) (512 * p.master.kept) (512 * p.hi) p.log sound.in_order

-- Whom the master names has begun among what is taken.

begun_taken : (m : Master) (t : ℕ) → is_named m.active t ≡ true → (xs : List Entry) → has_begun xs t ≡ true → has_begun (filter (is_taken m) xs) t ≡ true
begun_taken m t named [] h = h
begun_taken m t named (x ∷ xs) h = grind (arith, common_steps, (begun_taken m t named xs))

pub taken_begin : TakenBegin
taken_begin p sound = each p.master.active (λ t named. begun_taken p.master t named p.log (any_chosen (begins_as t) (λ x. nat_lt x.lsn (512 * p.master.redo)) p.log (named_parts p sound t named).begun))
  where
    each : (named : List Active) → ((t : ℕ) → is_named named t ≡ true → has_begun (taken p) t ≡ true) → HaveBegun named (taken p)
    each [] h = tt
    each (a ∷ named) h = (h a.begin (or_left (a.begin == a.begin) (is_named named a.begin) (eq-eqb a.begin a.begin refl)), each named (λ t is. h t (or_right (a.begin == t) (is_named named t) is)))
