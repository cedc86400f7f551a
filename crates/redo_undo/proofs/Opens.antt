-- Lists of active transactions.
use Rattle.redo_undo.proofs.Names.{Bool, true, false, true≢false, ◌==◌, ◌⊎◌, inl, inr, nat_eq, get_or, append_assoc, ◌≡◌, ◌≢◌, ℕ, suc, ◌+◌, ◌≤◌, ◌<◌, cond, List, [], ◌∷◌, ◌++◌, length, Option, None, Some, refl, sym, ap, subst, ◌∙◌, arith, cases_eq, ne_eqb, eq-eqb, length-map, sum_by-cons, none-some, same_Some, AllByRecursion, list_any, filter, option_map, IfNone, Open, owed_one, owed_for, found_in, updates_of, left_in, LeavesSame, DropsOne, AscendFrom, Replaces, TakesOut, Descend, IsOrder, loser_of, Loser, all_append, IsOf, Remain, HasNone, none_remains, all_both, all_left, all_right}
use Rattle.std.specs.Prelude.{map, drop}
use Rattle.std.proofs.lemmas.Bool.{eqb-true}
use Rattle.analysis.specs.declared.order.Order.{Order}

-- A transaction stands there once.

pub none_found : (t : ℕ) (table : List Open) → AllByRecursion (λ x. x.txn ≢ t) table → found_in table t ≡ None
none_found t [] all = refl
none_found t (x ∷ table) all = ap (λ b. cond b (Some x) (found_in table t)) (ne_eqb x.txn t all.0) ∙ none_found t table all.1

above : (n : ℕ) (table : List Open) → AscendFrom n table → AllByRecursion (λ x. n ≤ x.txn) table
above n [] ascend = grind (arith)
above n (x ∷ table) ascend = grind (arith, all_both, (above (x.txn + 1) table ascend.1))

at_least : (n : ℕ) (front : List Open) (was : Open) (back : List Open) → AscendFrom n (front ++ was ∷ back) → n ≤ was.txn
at_least n front was back ascend = (all_right (λ x. n ≤ x.txn) front (was ∷ back) (above n (front ++ was ∷ back) ascend)).0

pub found_here : (n : ℕ) (front : List Open) (was : Open) (back : List Open) → AscendFrom n (front ++ was ∷ back) → found_in (front ++ was ∷ back) was.txn ≡ Some was
found_here n [] was back ascend = grind (arith, eq-eqb)
found_here n (x ∷ front) was back ascend = grind (arith, at_least, ne_eqb, (found_here (x.txn + 1) front was back ascend.1))

others_differ : (n : ℕ) (front : List Open) (was : Open) (back : List Open) → AscendFrom n (front ++ was ∷ back) → AllByRecursion (λ x. x.txn ≢ was.txn) (front ++ back)
others_differ n [] was back ascend =
    all_both (λ y. was.txn + 1 ≤ y.txn) (λ y. was.txn + 1 ≤ y.txn) (λ y. y.txn ≢ was.txn) (λ y p q same. omega (arith, p, same)) back (above (was.txn + 1) back ascend.1) (above (was.txn + 1) back ascend.1)
others_differ n (x ∷ front) was back ascend =
    (λ same. omega (arith, at_least (x.txn + 1) front was back ascend.1, same), others_differ (x.txn + 1) front was back ascend.1)

-- What undo changes of it.

first_is : (old : List Open) (t : ℕ) (front : List Open) (was : Open) (back : List Open) (x : Open) → AscendFrom 0 old → old ≡ front ++ was ∷ back → was.txn ≡ t → found_in old t ≡ Some x → was ≡ x
first_is old t front was back x ascend is own found =
    same_Some was x (sym (found_here 0 front was back (subst (AscendFrom 0) is ascend)) ∙ ap (found_in (front ++ was ∷ back)) own ∙ sym (ap (λ (l : List Open). found_in l t) is) ∙ found)

abbrev undone_by : ℕ → Open → Open
undone_by last x = record x { last = last; updates = drop 1 x.updates }

drop_some : (us : List ℕ) → 1 < length us → 0 < length (drop 1 us)
drop_some [] some = absurd (omega (arith, some))
drop_some (u ∷ us) some = omega (arith, some)

drop_none : (us : List ℕ) → length us ≤ 1 → drop 1 us ≡ []
drop_none [] less = refl
drop_none (u ∷ []) less = refl
drop_none (u ∷ v ∷ us) less = absurd (omega (arith, less))

-- where more than one Update of a transaction remains one remains after its CLR
pub still_remain : (old new : List Open) (loser : Loser) (last : ℕ) → AscendFrom 0 old → Remain old → IsOf old loser → 1 < loser.remaining → Replaces old new loser.txn (undone_by last) → Remain new
still_remain old new loser last ascend all is more r = grind (arith, first_is, all_append, all_left, drop_some, all_right)

-- and else none does
pub none_remains_of : (old new : List Open) (loser : Loser) (last : ℕ) → AscendFrom 0 old → AscendFrom 0 new → IsOf old loser → loser.remaining ≤ 1 → Replaces old new loser.txn (undone_by last) → HasNone new loser.txn
none_remains_of old new loser last ascend ascend' is less r =
    let same = first_is old loser.txn r.front r.was r.back is.x ascend r.old_is r.of is.there in
    let count : loser.remaining ≡ length r.was.updates = ap (λ (l : Loser). l.remaining) is.same ∙ sym (ap (λ (x : Open). length x.updates) same) in
    record {
      x = undone_by last r.was;
      there = ap (λ (l : List Open). found_in l loser.txn) r.new_is ∙ sym (ap (found_in (r.front ++ undone_by last r.was ∷ r.back)) r.of) ∙ found_here 0 r.front (undone_by last r.was) r.back (subst (AscendFrom 0) r.new_is ascend');
      none = drop_none r.was.updates (omega (arith, less, count));
    }

-- of it itself one remains where more than one did
pub left_then : (old new : List Open) (loser : Loser) (last : ℕ) → AscendFrom 0 old → IsOf old loser → 1 < loser.remaining → Replaces old new loser.txn (undone_by last) → AscendFrom 0 new → (x : Open) × (found_in new loser.txn ≡ Some x) × (none_remains x ≡ false)
left_then old new loser last ascend is more r ascend' =
    let same = first_is old loser.txn r.front r.was r.back is.x ascend r.old_is r.of is.there in
    let count : loser.remaining ≡ length r.was.updates = ap (λ (l : Loser). l.remaining) is.same ∙ sym (ap (λ (x : Open). length x.updates) same) in
    let some = drop_some r.was.updates (omega (arith, more, count)) in (
      undone_by last r.was,
      ap (λ (l : List Open). found_in l loser.txn) r.new_is ∙ sym (ap (found_in (r.front ++ undone_by last r.was ∷ r.back)) r.of) ∙ found_here 0 r.front (undone_by last r.was) r.back (subst (AscendFrom 0) r.new_is ascend'),
      ne_eqb (length (drop 1 r.was.updates)) 0 (λ none. omega (arith, some, none)),
    )

-- Then it is taken out, and of all others Updates remain.
pub others_remain : (old mid new : List Open) (t last : ℕ) → AscendFrom 0 mid → Remain old → Replaces old mid t (undone_by last) → TakesOut mid new t → Remain new
others_remain old mid new t last ascend all r out =
    let parts = subst Remain r.old_is all in
    let but : AllByRecursion (λ (x : Open). x.txn ≢ t → 0 < length x.updates) mid =
    subst (AllByRecursion (λ (x : Open). x.txn ≢ t → 0 < length x.updates)) (sym r.new_is)
    (all_append (λ x. x.txn ≢ t → 0 < length x.updates) r.front (undone_by last r.was ∷ r.back)
    (all_weaker r.front (all_left (λ x. 0 < length x.updates) r.front (r.was ∷ r.back) parts))
    (λ differ. absurd (differ r.of), all_weaker r.back ((all_right (λ x. 0 < length x.updates) r.front (r.was ∷ r.back) parts).1))) in
    let there = subst (AllByRecursion (λ (x : Open). x.txn ≢ t → 0 < length x.updates)) out.old_is but in
    subst Remain (sym out.new_is)
    (all_both (λ x. x.txn ≢ out.was.txn) (λ x. x.txn ≢ t → 0 < length x.updates) (λ x. 0 < length x.updates) (λ x differ some. some (λ same. differ (same ∙ sym out.of))) (out.front ++ out.back)
    (others_differ 0 out.front out.was out.back (subst (AscendFrom 0) out.old_is ascend))
    (all_append (λ x. x.txn ≢ t → 0 < length x.updates) out.front out.back (all_left (λ x. x.txn ≢ t → 0 < length x.updates) out.front (out.was ∷ out.back) there)
    ((all_right (λ x. x.txn ≢ t → 0 < length x.updates) out.front (out.was ∷ out.back) there).1)))
  where
    all_weaker : (xs : List Open) → AllByRecursion (λ x. 0 < length x.updates) xs → AllByRecursion (λ x. x.txn ≢ t → 0 < length x.updates) xs
    all_weaker [] all = tt
    all_weaker (x ∷ xs) all = (λ differ. all.0, all_weaker xs all.1)

-- What remains of each transaction.

found_txn : (table : List Open) (t : ℕ) (x : Open) → found_in table t ≡ Some x → x.txn ≡ t
found_txn [] t x found = grind (arith, none-some)
found_txn (y ∷ table) t x found = grind (arith, same_Some, eqb-true, (found_txn table t x))

-- a transaction by its name
pub of_found : (table : List Open) (t : ℕ) (loser : Loser) → Some loser ≡ option_map loser_of (found_in table t) → IsOf table loser × (loser.txn ≡ t)
of_found table t loser is = grind (arith, none-some, same_Some, found_txn)

found_without : (front : List Open) (x : Open) (back : List Open) (s : ℕ) → x.txn ≢ s → found_in (front ++ x ∷ back) s ≡ found_in (front ++ back) s
found_without [] x back s other = ap (λ b. cond b (Some x) (found_in back s)) (ne_eqb x.txn s other)
found_without (y ∷ front) x back s other = ap (λ (o : Option Open). cond (y.txn == s) (Some y) o) (found_without front x back s other)

others_same : (old new : List Open) (t s : ℕ) → TakesOut old new t → s ≢ t → found_in new s ≡ found_in old s
others_same old new t s out other =
    ap (λ (l : List Open). found_in l s) out.new_is ∙ sym (found_without out.front out.was out.back s (λ same. other (sym same ∙ out.of))) ∙ sym (ap (λ (l : List Open). found_in l s) out.old_is)

-- where nothing of a transaction remained the same remains without it
pub left_same : (old new : List Open) (t : ℕ) → AscendFrom 0 old → HasNone old t → TakesOut old new t → LeavesSame old new
left_same old new t ascend none out s = by (cases_eq s t)
  where
    gone : found_in new t ≡ None
    gone = ap (λ (l : List Open). found_in l t) out.new_is ∙ none_found t (out.front ++ out.back) (subst (λ n. AllByRecursion (λ (x : Open). x.txn ≢ n) (out.front ++ out.back)) out.of (others_differ 0 out.front out.was out.back (subst (AscendFrom 0) out.old_is ascend)))

    by : (s ≡ t) ⊎ (s ≢ t) → left_in new s ≡ left_in old s
    by (inl same) = ap (left_in new) same ∙ ap updates_of gone ∙ sym none.none ∙ sym (ap updates_of none.there) ∙ ap (left_in old) (sym same)
    by (inr other) = ap updates_of (others_same old new t s out other)

-- behind a CLR one Update less remains of its transaction
pub drops_one : (old new : List Open) (t last : ℕ) → AscendFrom 0 old → AscendFrom 0 new → Replaces old new t (undone_by last) → DropsOne old new t
drops_one old new t last ascend ascend' r s = grind (arith, found_here, eq-eqb, found_without, ne_eqb)

pub drops_as : (old mid new : List Open) (t : ℕ) → DropsOne old mid t → LeavesSame mid new → DropsOne old new t
drops_as old mid new t drops same s = same s ∙ drops s

-- an order holds where the same remains
pub order_same : (order : Order) (old new : List Open) → IsOrder order old → LeavesSame old new → IsOrder order new
order_same order old new is same = record { has = λ t n. is.has t n ∙ sym (ap (list_any (λ u. u == n)) (same t)); descend = λ t. subst Descend (sym (same t)) (is.descend t) }

-- Those of which nothing remains, by their names.

pub record Waits (names : List ℕ) (table : List Open) : Type 0 where
  pub rest : List Open
  pub names_are : names ≡ map (λ x. x.txn) rest
  pub ascend : AscendFrom 0 rest
  pub none : AllByRecursion (λ x. HasNone table x.txn) rest
  pub count : length (filter none_remains table) ≡ length rest

filter_ascends : (n : ℕ) (table : List Open) → AscendFrom n table → AscendFrom n (filter none_remains table)
filter_ascends n [] ascend = tt
filter_ascends n (x ∷ table) ascend = by (none_remains x) (filter_ascends (x.txn + 1) table ascend.1)
  where
    lower : (m : ℕ) (l : List Open) → n ≤ m → AscendFrom m l → AscendFrom n l
    lower m [] le a = tt
    lower m (y ∷ l) le a = let low = a.0 in (omega (arith, low, le), a.1)

    by : (b : Bool) → AscendFrom (x.txn + 1) (filter none_remains table) → AscendFrom n (cond b (x ∷ filter none_remains table) (filter none_remains table))
    by true rest = (ascend.0, rest)
    by false rest = let low = ascend.0 in lower (x.txn + 1) (filter none_remains table) (omega (arith, low)) rest

empty_from : (us : List ℕ) → nat_eq (length us) 0 ≡ true → us ≡ []
empty_from [] is = refl
empty_from (u ∷ us) is = absurd (omega (arith, eqb-true (length (u ∷ us)) 0 is))

none_all : (n : ℕ) (all front table : List Open) → AscendFrom n (front ++ table) → all ≡ front ++ table → AllByRecursion (λ x. HasNone all x.txn) (filter none_remains table)
none_all n all front [] ascend is = grind (arith)
none_all n all front (x ∷ table) ascend is = grind (arith, append_assoc, found_here, empty_from, (none_all n all (front ++ x ∷ []) table (subst (AscendFrom n) (sym (append_assoc front (x ∷ []) table)) ascend) (is ∙ sym (append_assoc front (x ∷ []) table))))

pub waits_all : (names : List ℕ) (table : List Open) → AscendFrom 0 table → names ≡ map (λ x. x.txn) (filter none_remains table) → Waits names table
waits_all names table ascend are = record { rest = filter none_remains table; names_are = are; ascend = filter_ascends 0 table ascend; none = none_all 0 table [] table ascend refl; count = refl }

-- the first of them
pub first_waits : (t : ℕ) (names : List ℕ) (table : List Open) → Waits (t ∷ names) table → HasNone table t
first_waits t names table w = by w.rest w.names_are w.none
  where
    by : (rest : List Open) → t ∷ names ≡ map (λ x. x.txn) rest → AllByRecursion (λ x. HasNone table x.txn) rest → HasNone table t
    by [] are none = absurd (omega (arith, ap length are))
    by (x ∷ rest) are none = subst (HasNone table) (sym (ap (λ (l : List ℕ). get_or l 0 t) are)) none.0

-- behind its End the others wait
pub waits_on : (t : ℕ) (names : List ℕ) (old new : List Open) → Waits (t ∷ names) old → length (filter none_remains old) ≡ suc (length (filter none_remains new)) → TakesOut old new t → Waits names new
waits_on t names old new w one out = by w.rest w.names_are w.ascend w.none w.count
  where
    still : (n : ℕ) (rest : List Open) → t < n → AscendFrom n rest → AllByRecursion (λ x. HasNone old x.txn) rest → AllByRecursion (λ x. HasNone new x.txn) rest
    still n [] less ascend none = tt
    still n (x ∷ rest) less ascend none =
        let low = ascend.0 in
        let here = none.0 in
        (record { x = here.x; there = others_same old new t x.txn out (λ same. omega (arith, low, less, same)) ∙ here.there; none = here.none }, still (x.txn + 1) rest (omega (arith, low, less)) ascend.1 none.1)

    lower : (m : ℕ) (l : List Open) → AscendFrom m l → AscendFrom 0 l
    lower m [] a = tt
    lower m (y ∷ l) a = (omega arith, a.1)

    by : (rest : List Open) → t ∷ names ≡ map (λ x. x.txn) rest → AscendFrom 0 rest → AllByRecursion (λ x. HasNone old x.txn) rest → length (filter none_remains old) ≡ length rest → Waits names new
    by [] are ascend none count = absurd (omega (arith, ap length are))
    by (x ∷ rest) are ascend none count =
        let same : t ≡ x.txn = ap (λ (l : List ℕ). get_or l 0 t) are in
        record { rest = rest; names_are = ap (drop 1) are; ascend = lower (x.txn + 1) rest ascend.1; none = still (x.txn + 1) rest (omega (arith, same)) ascend.1 none.1; count = omega (arith, count, one) }

-- where none waits something remains of each
pub none_waits : (table : List Open) → Waits [] table → Remain table
none_waits table w = all table (w.count ∙ sym (ap length w.names_are ∙ length-map w.rest (λ x. x.txn)))
  where
    some : (us : List ℕ) → nat_eq (length us) 0 ≡ false → 0 < length us
    some [] is = absurd (true≢false is)
    some (u ∷ us) is = omega arith

    all : (l : List Open) → length (filter none_remains l) ≡ 0 → Remain l
    all [] none = tt
    all (x ∷ l) none = by (none_remains x) refl none (all l)
      where
        by : (b : Bool) → none_remains x ≡ b → length (cond b (x ∷ filter none_remains l) (filter none_remains l)) ≡ 0 → (length (filter none_remains l) ≡ 0 → Remain l) → Remain (x ∷ l)
        by true is none rest = absurd (omega (arith, none))
        by false is none rest = (some x.updates is, rest none)

-- Where of each an Update remains and of none, there is none.
pub none_listed : (table : List Open) → Remain table → AllByRecursion (λ x. x.updates ≡ []) table → table ≡ []
none_listed [] some none = refl
none_listed (x ∷ table) some none = let a = some.0 in let b = ap length none.0 in absurd (omega (arith, a, b))

pub if_none : {X : Type 0} (o : Option X) (P : Type 0) → ((x : X) → o ≡ Some x → ⊥) → IfNone o P → P
if_none None P not_some p = p
if_none (Some x) P not_some p = absurd (not_some x refl)

-- where one is active something is owed
pub some_owed : (table : List Open) (t : ℕ) (x : Open) → found_in table t ≡ Some x → 1 ≤ owed_for table
some_owed [] t x is = absurd (none-some x is)
some_owed (y ∷ table) t x is = omega (arith, sum_by-cons owed_one y table)
