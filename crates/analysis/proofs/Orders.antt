-- Orders of Updates.
use Rattle.analysis.proofs.Names.{◌≡◌, ◌≢◌, ◌⊎◌, inl, inr, ℕ, ◌+◌, ◌<◌, ◌≤◌, ◌==◌, ◌&&◌, ◌||◌, Bool, true, false, true≢false, cond, if◌then◌else◌, List, [], ◌∷◌, ◌++◌, length, take, drop, get_or, slice_get, reverse, Option, Some, None, IfSome, IsSome, is_some, ◌↔◌, refl, sym, ap, subst, ◌∙◌, arith, cases_eq, eq-eqb, eqb-true, ne_eqb, take_more, take-append-drop, reverse-append, ge_from_not_lt, none-some, same_Some, get, is_at, Updates, IsUpperBound, unsigned_tied, AllByRecursion, list_any, lookup, nat_cmp, Open, found_in, updates_of, left_in, AscendFrom, DropsOne, IsTop, IsAtMost, Remains, HasLeft, OneHas, IsNext, BeginBelow, Descend, has_at, IsOrder, Order, and_false, or_false, or_true, any_reverse}
use Rattle.std.proofs.lemmas.List.Folds.{list_any-append}
use Rattle.analysis.specs.Order.{is_of}
use Rattle.analysis.proofs.Nexts.{some_left}
use Rattle.analysis.proofs.Tables.{found_here, found_later}

-- Numbers that descend.

any_here : (u : ℕ) (us : List ℕ) → list_any (λ v. v == u) (u ∷ us) ≡ true
any_here u us = ap (λ b. b || list_any (λ v. v == u) us) (eq-eqb u u refl)

-- none of those that descend from below a number is that or more
none_from : (n : ℕ) (us : List ℕ) → BeginBelow n us → Descend us → (m : ℕ) → n ≤ m → list_any (λ v. v == m) us ≡ false
none_from n [] below descend m le = refl
none_from n (u ∷ us) below descend m le = ap (λ b. b || list_any (λ v. v == m) us) (ne_eqb u m (λ same. omega (arith, below, le, same))) ∙ none_from u us descend.0 descend.1 m (omega (arith, below, le))

-- one of these that isn't below the first is the first
first_is : (u : ℕ) (us : List ℕ) → Descend (u ∷ us) → (m : ℕ) → u ≤ m → list_any (λ v. v == m) (u ∷ us) ≡ true → u ≡ m
first_is u us descend m le any = by (cases_eq u m)
  where
    by : (u ≡ m) ⊎ (u ≢ m) → u ≡ m
    by (inl same) = same
    by (inr other) = absurd (true≢false (sym any ∙ ap (λ b. b || list_any (λ v. v == m) us) (ne_eqb u m other) ∙ none_from u us descend.0 descend.1 m le))

pub descend_back : (us vs : List ℕ) → Descend (us ++ vs) → Descend vs
descend_back [] vs descend = descend
descend_back (u ∷ us) vs descend = descend_back us vs descend.1

none_of : (us : List ℕ) → ((m : ℕ) → list_any (λ v. v == m) us ≡ false) → us ≡ []
none_of [] none = refl
none_of (u ∷ us) none = absurd (true≢false (sym (any_here u us) ∙ none u))

-- A table by what it says.

above : (n : ℕ) (table : List Open) (t : ℕ) (x : Open) → AscendFrom n table → found_in table t ≡ Some x → n ≤ t
above n [] t x ascend found = absurd (none-some x found)
above n (y ∷ table) t x ascend found = by (cases_eq y.txn t) (above (y.txn + 1) table t x ascend.1)
  where
    by : (y.txn ≡ t) ⊎ (y.txn ≢ t) → (found_in table t ≡ Some x → y.txn + 1 ≤ t) → n ≤ t
    by (inl same) rest = let low = ascend.0 in omega (arith, low, same)
    by (inr other) rest = let later = rest (sym (found_later y table t other) ∙ found) in let low = ascend.0 in omega (arith, low, later)

pub all_said : (P : Open → Type 0) (n : ℕ) (table : List Open) → AscendFrom n table → ((x : Open) → found_in table x.txn ≡ Some x → P x) → AllByRecursion P table
all_said P n [] ascend each = tt
all_said P n (x ∷ table) ascend each = (
  each x (found_here x table x.txn refl),
  all_said P (x.txn + 1) table ascend.1 (λ y found. each y (found_later x table y.txn (λ same. let low = above (x.txn + 1) table y.txn y ascend.1 found in omega (arith, low, same)) ∙ found)),
)

one_has : (table : List Open) (t lsn : ℕ) (x : Open) → found_in table t ≡ Some x → IsTop lsn x.updates → OneHas table t lsn
one_has [] t lsn x found top = absurd (none-some x found)
one_has (y ∷ table) t lsn x found top = by (cases_eq y.txn t) (λ later. one_has table t lsn x later top)
  where
    by : (y.txn ≡ t) ⊎ (y.txn ≢ t) → (found_in table t ≡ Some x → OneHas table t lsn) → OneHas (y ∷ table) t lsn
    by (inl same) rest = inl (same, subst (λ (o : Open). IsTop lsn o.updates) (sym (same_Some y x (sym (found_here y table t same) ∙ found))) top)
    by (inr other) rest = inr (rest (sym (found_later y table t other) ∙ found))

-- The last Update.

module _ (order : Order) (table : List Open) (is : IsOrder order table) where
  -- what remains stands there
  there : (t lsn : ℕ) → list_any (λ u. u == lsn) (left_in table t) ≡ true → get nat_cmp order.updates lsn ≡ Some t
  there t lsn any = by (get nat_cmp order.updates lsn) refl
    where
      by : (o : Option ℕ) → get nat_cmp order.updates lsn ≡ o → get nat_cmp order.updates lsn ≡ Some t
      by None none = absurd (true≢false (sym any ∙ sym (is.has t lsn) ∙ ap (λ o. is_of o t) none))
      by (Some s) some = some ∙ ap Some (eqb-true s t (sym (ap (λ o. is_of o t) some) ∙ is.has t lsn ∙ any))

  pub none_left : ((lsn : ℕ) → get nat_cmp order.updates lsn ≡ None) → (t : ℕ) → left_in table t ≡ []
  none_left none t = none_of (left_in table t) (λ lsn. sym (is.has t lsn) ∙ ap (λ o. is_of o t) (none lsn))

  module _ (t lsn : ℕ) (at : get nat_cmp order.updates lsn ≡ Some t) (greatest : IsUpperBound nat_cmp order.updates lsn) where
    -- all that remains stands up to it
    up_to : (s n : ℕ) → list_any (λ u. u == n) (left_in table s) ≡ true → n ≤ lsn
    up_to s n any = ge_from_not_lt lsn n (greatest n (subst IsSome (sym (there s n any)) refl))

    left_there : list_any (λ u. u == lsn) (left_in table t) ≡ true
    left_there = sym (is.has t lsn) ∙ ap (λ o. is_of o t) at ∙ eq-eqb t t refl

    record IsFirst : Type 0 where
      rest : List ℕ
      left_is : left_in table t ≡ lsn ∷ rest

    first_left : IsFirst
    first_left = by (left_in table t) refl
      where
        by : (us : List ℕ) → left_in table t ≡ us → IsFirst
        by [] none = absurd (true≢false (sym left_there ∙ ap (list_any (λ u. u == lsn)) none))
        by (u ∷ us) some =
            let low = up_to t u (ap (list_any (λ v. v == u)) some ∙ any_here u us) in
            let same = first_is u us (subst Descend some (is.descend t)) lsn low (sym (ap (list_any (λ v. v == lsn)) some) ∙ left_there) in
            record { rest = us; left_is = some ∙ ap (λ n. n ∷ us) same }

    pub remains : Remains table t lsn
    remains = by (found_in table t) refl
      where
        by : (o : Option Open) → found_in table t ≡ o → Remains table t lsn
        by None none = absurd (true≢false (sym left_there ∙ ap (λ o. list_any (λ u. u == lsn) (updates_of o)) none))
        by (Some x) some = record { x = x; there = some; top = subst (IsTop lsn) (sym (sym (ap updates_of some) ∙ first_left.left_is)) refl }

    pub has_left : HasLeft table t
    has_left = let r = remains in record { x = r.x; there = r.there; some = some_left r.x.updates lsn r.top }

    at_most : (x : Open) → found_in table x.txn ≡ Some x → IsAtMost lsn x.updates
    at_most x found = by x.updates (ap updates_of found)
      where
        by : (us : List ℕ) → left_in table x.txn ≡ us → IsAtMost lsn us
        by [] left = tt
        by (u ∷ us) left = up_to x.txn u (ap (list_any (λ v. v == u)) left ∙ any_here u us)

    pub next : AscendFrom 0 table → IsNext table (Some (t, lsn))
    next ascend = (one_has table t lsn remains.x remains.there remains.top, all_said (λ x. IsAtMost lsn x.updates) 0 table ascend at_most)

    -- it is taken out
    module _ (now : List Open) (new : Order) (drops : DropsOne table now t) (updates : Updates nat_cmp order.updates new.updates lsn None) where
      abbrev rest : List ℕ
      rest = first_left.rest

      descends : Descend (lsn ∷ rest)
      descends = subst Descend first_left.left_is (is.descend t)

      own_left : left_in now t ≡ rest
      own_left = drops t ∙ ap (λ b. if b then drop 1 (left_in table t) else left_in table t) (eq-eqb t t refl) ∙ ap (drop 1) first_left.left_is

      other_left : (s : ℕ) → s ≢ t → left_in now s ≡ left_in table s
      other_left s other = drops s ∙ ap (λ b. if b then drop 1 (left_in table s) else left_in table s) (ne_eqb s t other)

      new_at : (n : ℕ) → get nat_cmp new.updates n ≡ cond (lsn == n) None (get nat_cmp order.updates n)
      new_at n = updates.0 n ∙ ap (λ b. cond b None (get nat_cmp order.updates n)) (unsigned_tied lsn n)

      -- of its own transaction
      own_has : (n : ℕ) → has_at new t n ≡ list_any (λ u. u == n) rest
      own_has n = by (lsn == n) refl
        where
          by : (b : Bool) → (lsn == n) ≡ b → has_at new t n ≡ list_any (λ u. u == n) rest
          by true same = ap (λ o. is_of o t) (new_at n ∙ ap (λ b. cond b None (get nat_cmp order.updates n)) same) ∙ sym (none_from lsn rest descends.0 descends.1 n (let e = eqb-true lsn n same in omega (arith, e)))
          by false other =
              ap (λ o. is_of o t) (new_at n ∙ ap (λ b. cond b None (get nat_cmp order.updates n)) other) ∙ is.has t n ∙ ap (list_any (λ u. u == n)) first_left.left_is ∙ ap (λ b. b || list_any (λ u. u == n) rest) other

      other_has : (s n : ℕ) → s ≢ t → has_at new s n ≡ list_any (λ u. u == n) (left_in table s)
      other_has s n apart = by (lsn == n) refl
        where
          by : (b : Bool) → (lsn == n) ≡ b → has_at new s n ≡ list_any (λ u. u == n) (left_in table s)
          by true same =
              ap (λ o. is_of o s) (new_at n ∙ ap (λ b. cond b None (get nat_cmp order.updates n)) same) ∙ sym (ne_eqb t s (λ e. apart (sym e))) ∙ sym (ap (λ o. is_of o s) (ap (get nat_cmp order.updates) (sym (eqb-true lsn n same)) ∙ at)) ∙ is.has s n
          by false other = ap (λ o. is_of o s) (new_at n ∙ ap (λ b. cond b None (get nat_cmp order.updates n)) other) ∙ is.has s n

      pub taken : IsOrder new now
      taken = record {
        has = λ s n. by_has s n (cases_eq s t);
        descend = λ s. by_descend s (cases_eq s t);
      }
        where
          by_has : (s n : ℕ) → (s ≡ t) ⊎ (s ≢ t) → has_at new s n ≡ list_any (λ u. u == n) (left_in now s)
          by_has s n (inl same) = subst (λ k. has_at new k n ≡ list_any (λ u. u == n) (left_in now k)) (sym same) (own_has n ∙ sym (ap (list_any (λ u. u == n)) own_left))
          by_has s n (inr other) = other_has s n other ∙ sym (ap (list_any (λ u. u == n)) (other_left s other))

          by_descend : (s : ℕ) → (s ≡ t) ⊎ (s ≢ t) → Descend (left_in now s)
          by_descend s (inl same) = subst (λ k. Descend (left_in now k)) (sym same) (subst Descend (sym own_left) descends.1)
          by_descend s (inr other) = subst Descend (sym (other_left s other)) (is.descend s)

-- One more transaction.

found_more : (a : List Open) (x : Open) (t : ℕ) → x.txn ≢ t → found_in (a ++ x ∷ []) t ≡ found_in a t
found_more [] x t other = found_later x [] t other
found_more (y ∷ a) x t other = ap (λ (o : Option Open). cond (y.txn == t) (Some y) o) (found_more a x t other)

found_last : (a : List Open) (x : Open) → found_in a x.txn ≡ None → found_in (a ++ x ∷ []) x.txn ≡ Some x
found_last [] x none = found_here x [] x.txn refl
found_last (y ∷ a) x none = by (cases_eq y.txn x.txn) (found_last a x)
  where
    by : (y.txn ≡ x.txn) ⊎ (y.txn ≢ x.txn) → (found_in a x.txn ≡ None → found_in (a ++ x ∷ []) x.txn ≡ Some x) → found_in (y ∷ (a ++ x ∷ [])) x.txn ≡ Some x
    by (inl same) tail = absurd (none-some y (sym none ∙ found_here y a x.txn same))
    by (inr other) tail = found_later y (a ++ x ∷ []) x.txn other ∙ tail (sym (found_later y a x.txn other) ∙ none)

pub none_before : (n : ℕ) (a : List Open) (x : Open) (b : List Open) → AscendFrom n (a ++ x ∷ b) → (n ≤ x.txn) × (found_in a x.txn ≡ None)
none_before n [] x b ascend = (ascend.0, refl)
none_before n (y ∷ a) x b ascend =
    let rest = none_before (y.txn + 1) a x b ascend.1 in
    let low = ascend.0 in
    let later = rest.0 in
    (omega (arith, low, later), found_later y a x.txn (λ same. omega (arith, later, same)) ∙ rest.1)

pub order_more : (order new : Order) (a : List Open) (x : Open) → found_in a x.txn ≡ None → IsOrder order a → ((t n : ℕ) → has_at new t n ≡ (has_at order t n || ((x.txn == t) && list_any (λ u. u == n) x.updates))) → Descend x.updates → IsOrder new (a ++ x ∷ [])
order_more order new a x none is added descend = record { has = λ t n. by_has t n (cases_eq x.txn t); descend = λ t. by_descend t (cases_eq x.txn t) }
  where
    left_own : left_in (a ++ x ∷ []) x.txn ≡ x.updates
    left_own = ap updates_of (found_last a x none)

    left_other : (t : ℕ) → x.txn ≢ t → left_in (a ++ x ∷ []) t ≡ left_in a t
    left_other t other = ap updates_of (found_more a x t other)

    by_has : (t n : ℕ) → (x.txn ≡ t) ⊎ (x.txn ≢ t) → has_at new t n ≡ list_any (λ u. u == n) (left_in (a ++ x ∷ []) t)
    by_has t n (inl same) =
        added t n ∙ ap (λ b. b || ((x.txn == t) && list_any (λ u. u == n) x.updates)) (is.has t n ∙ ap (λ o. list_any (λ u. u == n) (updates_of o)) (ap (found_in a) (sym same) ∙ none)) ∙ ap (λ b. b && list_any (λ u. u == n) x.updates) (eq-eqb x.txn t same)
        ∙ sym (ap (list_any (λ u. u == n)) left_own) ∙ ap (λ k. list_any (λ u. u == n) (left_in (a ++ x ∷ []) k)) same
    by_has t n (inr other) =
        added t n ∙ ap (λ b. has_at order t n || (b && list_any (λ u. u == n) x.updates)) (ne_eqb x.txn t other) ∙ or_false (has_at order t n) ∙ is.has t n ∙ sym (ap (list_any (λ u. u == n)) (left_other t other))

    by_descend : (t : ℕ) → (x.txn ≡ t) ⊎ (x.txn ≢ t) → Descend (left_in (a ++ x ∷ []) t)
    by_descend t (inl same) = subst (λ k. Descend (left_in (a ++ x ∷ []) k)) same (subst Descend (sym left_own) descend)
    by_descend t (inr other) = subst Descend (sym (left_other t other)) (is.descend t)

-- Where there is none, nothing remains.

lookup_empty : (es : List (ℕ × ℕ)) → length es ≡ 0 → (n : ℕ) → lookup (is_at (nat_cmp n)) es ≡ None
lookup_empty [] none n = refl
lookup_empty (e ∷ es) none n = absurd (omega (arith, none))

some_entry : (es : List (ℕ × ℕ)) → (length es ≡ 0) ⊎ (0 < length es)
some_entry [] = inl refl
some_entry (e ∷ es) = inr (omega arith)

pub none_in : {X : Type 0} (order : Order) (r : Option X) → (IsSome r ↔ (0 < length order.updates.entries)) → r ≡ None → (table : List Open) → IsOrder order table → AscendFrom 0 table → AllByRecursion (λ x. x.updates ≡ []) table
none_in {X} order r variant none table is ascend = by (some_entry order.updates.entries)
  where
    by : (length order.updates.entries ≡ 0) ⊎ (0 < length order.updates.entries) → AllByRecursion (λ x. x.updates ≡ []) table
    by (inl empty) = all_said (λ x. x.updates ≡ []) 0 table ascend (λ x found. sym (ap updates_of found) ∙ none_left order table is (lookup_empty order.updates.entries empty) x.txn)
    by (inr some) = absurd (true≢false (sym (variant.1 some) ∙ ap (λ (o : Option X). is_some o) none))

-- The Updates of one transaction, one more of them.

turned_more : (ns : List ℕ) (i : ℕ) → i < length ns → reverse (take (i + 1) ns) ≡ get_or ns i 0 ∷ reverse (take i ns)
turned_more ns i less = ap reverse (take_more ns i 0 less) ∙ reverse-append (take i ns) (get_or ns i 0 ∷ [])

begin_below : (us : List ℕ) (before : Option ℕ) (x : ℕ) → before ≡ slice_get us 0 → IfSome before (λ last. last < x) → BeginBelow x us
begin_below [] before x is above = tt
begin_below (u ∷ us) before x is above = subst (λ (o : Option ℕ). IfSome o (λ last. last < x)) is above

above_begin : (us : List ℕ) (before : Option ℕ) (x : ℕ) → before ≡ slice_get us 0 → BeginBelow x us → IfSome before (λ last. last < x)
above_begin [] before x is below = subst (λ (o : Option ℕ). IfSome o (λ last. last < x)) (sym is) tt
above_begin (u ∷ us) before x is below = subst (λ (o : Option ℕ). IfSome o (λ last. last < x)) (sym is) below

bool_more : (a p b q : Bool) → ((a || (p && b)) || (p && q)) ≡ (a || (p && (b || q)))
bool_more true p b q = refl
bool_more false true b q = refl
bool_more false false b q = refl

module _ (ns : List ℕ) (i : ℕ) (less : i < length ns) (before : Option ℕ) (last : before ≡ slice_get (reverse (take i ns)) 0) where
  abbrev x : ℕ
  x = get_or ns i 0

  pub last_more : Some x ≡ slice_get (reverse (take (i + 1) ns)) 0
  last_more = sym (ap (λ (l : List ℕ). slice_get l 0) (turned_more ns i less))

  pub more_descend : Descend (reverse (take i ns)) → IfSome before (λ last. last < x) → Descend (reverse (take (i + 1) ns))
  more_descend descend above = subst Descend (sym (turned_more ns i less)) (begin_below (reverse (take i ns)) before x last above, descend)

  all_turned : reverse ns ≡ reverse (drop (i + 1) ns) ++ x ∷ reverse (take i ns)
  all_turned = ap reverse (sym (take-append-drop (i + 1) ns)) ∙ reverse-append (take (i + 1) ns) (drop (i + 1) ns) ∙ ap (λ (l : List ℕ). reverse (drop (i + 1) ns) ++ l) (turned_more ns i less)

  pub so_far : Descend (reverse ns) → Descend (x ∷ reverse (take i ns))
  so_far descend = descend_back (reverse (drop (i + 1) ns)) (x ∷ reverse (take i ns)) (subst Descend all_turned descend)

  pub refused_above : (IfSome before (λ last. last < x) → ⊥) → Descend (reverse ns) → ⊥
  refused_above none descend = none (above_begin (reverse (take i ns)) before x last (so_far descend).0)

  any_more : (n : ℕ) → list_any (λ u. u == n) (take (i + 1) ns) ≡ (list_any (λ u. u == n) (take i ns) || (x == n))
  any_more n =
      ap (list_any (λ u. u == n)) (take_more ns i 0 less) ∙ list_any-append (λ u. u == n) (take i ns) (x ∷ []) ∙ ap (λ b. list_any (λ u. u == n) (take i ns) || b) (or_false (x == n))

  module _ (first old new : Order) (txn : ℕ) (added : (t n : ℕ) → has_at old t n ≡ (has_at first t n || ((txn == t) && list_any (λ u. u == n) (take i ns)))) where
    pub added_more : ((t n : ℕ) → has_at new t n ≡ (has_at old t n || ((txn == t) && (x == n)))) → (t n : ℕ) → has_at new t n ≡ (has_at first t n || ((txn == t) && list_any (λ u. u == n) (take (i + 1) ns)))
    added_more one t n =
        one t n ∙ ap (λ b. b || ((txn == t) && (x == n))) (added t n) ∙ bool_more (has_at first t n) (txn == t) (list_any (λ u. u == n) (take i ns)) (x == n) ∙ ap (λ b. has_at first t n || ((txn == t) && b)) (sym (any_more n))

    -- what stands at this LSN stood there before the first of them
    pub taken_before : (s : ℕ) → has_at old s x ≡ true → Descend (reverse ns) → has_at first s x ≡ true
    taken_before s taken descend =
        let down = so_far descend in
        let none : list_any (λ u. u == x) (take i ns) ≡ false = sym (any_reverse (λ u. u == x) (take i ns)) ∙ none_from x (reverse (take i ns)) down.0 down.1 x (omega arith) in
        sym (or_false (has_at first s x)) ∙ ap (λ b. has_at first s x || b) (sym (and_false (txn == s))) ∙ ap (λ b. has_at first s x || ((txn == s) && b)) (sym none) ∙ sym (added s x) ∙ taken

    pub any_at : list_any (λ u. u == x) ns ≡ true
    any_at = ap (list_any (λ u. u == x)) (sym (take-append-drop (i + 1) ns)) ∙ list_any-append (λ u. u == x) (take (i + 1) ns) (drop (i + 1) ns) ∙ ap (λ b. b || list_any (λ u. u == x) (drop (i + 1) ns)) (any_more x ∙ ap (λ b. list_any (λ u. u == x) (take i ns) || b) (eq-eqb x x refl) ∙ or_true (list_any (λ u. u == x) (take i ns)))
