-- The Updates that remain, among the records.
use Rattle.analysis.proofs.Names.{◌≡◌, ℕ, ◌+◌, ◌<◌, ◌≤◌, ◌==◌, ◌&&◌, ◌||◌, not, Bool, true, false, true≢false, List, [], ◌∷◌, ◌++◌, length, map, Option, Some, None, option_map, refl, sym, ap, subst, ◌∙◌, arith, append_assoc, cond-true, cond-false, eq-eqb, eqb-true, ne_eqb, and_parts, filter-append, none-some, same_Some, AllByRecursion, list_any, option_or, filter, Open, found_in, IsTop, IsAtMost, IsNext, BeginBelow, is_active, open_at, IsTable, in_order_from, Entry, txn_of, is_of, is_update, is_closed, entries_of, last_where, Active, IsInOrder, is_known, left_open, open_by, open_updates, pending, LogRecord, Update, Clr, all_both, all_filter_passed, all_weaker}
use Rattle.analysis.proofs.Steps.{active_some}
use Rattle.analysis.proofs.Nexts.{remains_is}
use Rattle.analysis.specs.Order as numbers

-- Lists.

-- an item stands in a list
pub record IsIn (xs : List Entry) (x : Entry) : Type 0 where
  pub front : List Entry
  pub back : List Entry
  pub is : xs ≡ front ++ x ∷ back

pub all_in : (all front xs : List Entry) → all ≡ front ++ xs → AllByRecursion (IsIn all) xs
all_in all front [] is = tt
all_in all front (x ∷ xs) is = (record { front = front; back = xs; is = is }, all_in all (front ++ x ∷ []) xs (is ∙ sym (append_assoc front (x ∷ []) xs)))

filter_none : (test : Entry → Bool) (xs : List Entry) → AllByRecursion (λ x. test x ≡ false) xs → filter test xs ≡ []
filter_none test [] h = refl
filter_none test (x ∷ xs) h = cond-false (test x) (x ∷ filter test xs) (filter test xs) h.0 ∙ filter_none test xs h.1

last_more : (xs : List Entry) (x : Entry) → last_where (λ e. true) (xs ++ x ∷ []) ≡ Some x
last_more [] x = refl
last_more (y ∷ xs) x = ap (λ (o : Option Entry). option_or o (Some y)) (last_more xs x)

-- the last item that passes a test
last_passes : (test : Entry → Bool) (front : List Entry) (x : Entry) (back : List Entry) → test x ≡ true → AllByRecursion (λ y. test y ≡ false) back → last_where (λ e. true) (filter test (front ++ x ∷ back)) ≡ Some x
last_passes test front x back here none = grind (arith, filter-append, cond-true, here, filter_none, last_more)

all_right : {X : Type 0} (P : X → Type 0) (front : List X) (back : List X) → AllByRecursion P (front ++ back) → AllByRecursion P back
all_right P [] back h = h
all_right P (x ∷ front) back h = all_right P front back h.1

any_lsn : (n : ℕ) (us : List Entry) → list_any (λ u. u.lsn == n) us ≡ list_any (λ m. m == n) (map (λ (u : Entry). u.lsn) us)
any_lsn n [] = refl
any_lsn n (u ∷ us) = ap (λ b. (u.lsn == n) || b) (any_lsn n us)

none_above : (top n : ℕ) → top < n → (ms : List ℕ) → AllByRecursion (λ m. m ≤ top) ms → list_any (λ m. m == n) ms ≡ false
none_above top n less [] h = refl
none_above top n less (m ∷ ms) h = ap (λ b. b || list_any (λ m. m == n) ms) (ne_eqb m n (λ same. omega (arith, h.0, less, same))) ∙ none_above top n less ms h.1

-- Order.

pub order_filter : (test : Entry → Bool) (from to : ℕ) (xs : List Entry) → IsInOrder from xs to → IsInOrder from (filter test xs) to
order_filter test from to [] order = order
order_filter test from to (x ∷ xs) order = grind (arith, in_order_from, (order_filter test (x.lsn + 1) to xs order.1))

pub order_above : (from to n : ℕ) (xs : List Entry) → n < from → IsInOrder from xs to → AllByRecursion (λ x. n < x.lsn) xs
order_above from to n [] less order = tt
order_above from to n (x ∷ xs) less order = (omega (arith, less, order.0), order_above (x.lsn + 1) to n xs (omega (arith, less, order.0)) order.1)

order_back : (from to : ℕ) (front : List Entry) (u : Entry) (back : List Entry) → IsInOrder from (front ++ u ∷ back) to → AllByRecursion (λ x. u.lsn < x.lsn) back
order_back from to [] u back order = order_above (u.lsn + 1) to u.lsn back (omega arith) order.1
order_back from to (x ∷ front) u back order = order_back (x.lsn + 1) to front u back order.1

-- The LSNs of Updates that remain descend.

abbrev Descend : ℕ → List Entry → Type 0
Descend n [] = Unit {0}
Descend n (u ∷ us) = (u.lsn < n) × Descend u.lsn us

descend_raise : (m n : ℕ) (us : List Entry) → m ≤ n → Descend m us → Descend n us
descend_raise m n [] less h = tt
descend_raise m n (u ∷ us) less h = (omega (arith, less, h.0), h.1)

descend_by : (n : ℕ) (us : List Entry) (e : Entry) (rec : LogRecord) → n ≤ e.lsn → Descend n us → Descend (e.lsn + 1) (open_by us e rec)
descend_by n us e (Update txn prev page slot before after) less h = (omega arith, descend_raise n e.lsn us less h)
descend_by n [] e (Clr txn prev undo_next page slot after) less h = tt
descend_by n (u ∷ us) e (Clr txn prev undo_next page slot after) less h = descend_raise u.lsn (e.lsn + 1) us (omega (arith, less, h.0)) h.1
descend_by n us e _ less h = descend_raise n (e.lsn + 1) us (omega (arith, less)) h

descend_open : (n to : ℕ) (us es : List Entry) → Descend n us → IsInOrder n es to → Descend to (open_updates us es)
descend_open n to us [] h order = descend_raise n to us order h
descend_open n to us (e ∷ es) h order = descend_open (e.lsn + 1) to (open_by us e e.rec) es (descend_by n us e e.rec order.0 h) order.1

at_most_all : (top n : ℕ) (us : List Entry) → Descend n us → n ≤ top + 1 → AllByRecursion (λ m. m ≤ top) (map (λ (u : Entry). u.lsn) us)
at_most_all top n [] h less = tt
at_most_all top n (u ∷ us) h less = (omega (arith, h.0, less), at_most_all top u.lsn us h.1 (omega (arith, h.0, less)))

all_at_most : (top n : ℕ) (us : List Entry) → Descend n us → IsAtMost top (map (λ (u : Entry). u.lsn) us) → AllByRecursion (λ m. m ≤ top) (map (λ (u : Entry). u.lsn) us)
all_at_most top n [] h first = tt
all_at_most top n (u ∷ us) h first = (first, at_most_all top u.lsn us h.1 (omega (arith, first)))

-- What remains are Updates.

module _ (P Q : Entry → Type 0) (give : (e : Entry) → P e → is_update e.rec ≡ true → Q e) where
  open_all_by : (us : List Entry) (e : Entry) (rec : LogRecord) → e.rec ≡ rec → P e → AllByRecursion Q us → AllByRecursion Q (open_by us e rec)
  open_all_by us e (Update txn prev page slot before after) is p q = (give e p (ap is_update is), q)
  open_all_by [] e (Clr txn prev undo_next page slot after) is p q = tt
  open_all_by (u ∷ us) e (Clr txn prev undo_next page slot after) is p q = q.1
  open_all_by us e _ is p q = q

  open_all : (us es : List Entry) → AllByRecursion P es → AllByRecursion Q us → AllByRecursion Q (open_updates us es)
  open_all us [] p q = q
  open_all us (e ∷ es) p q = open_all (open_by us e e.rec) es p.1 (open_all_by us e e.rec refl p.0 q)

-- The greatest of all.

abbrev pair_of : Entry → ℕ × ℕ
pair_of u = (txn_of u, u.lsn)

abbrev some_pair : ℕ → ℕ → Option (ℕ × ℕ)
some_pair a m = Some (a, m)

same_pair : (a b m n : ℕ) → a ≡ b → m ≡ n → some_pair a m ≡ some_pair b n
same_pair a b m n first second = λ i. some_pair (first i) (second i)

not_nil : (x : Entry) (xs : List Entry) → x ∷ xs ≡ [] → ⊥
not_nil x xs is = omega (arith, ap length is)

-- of each record the transaction is known, or closed
known_of : (named : List Active) (records xs : List Entry) → ((t : ℕ) → (is_known named records t || is_closed records t) ≡ false → filter (is_of t) xs ≡ []) → AllByRecursion (λ e. (is_known named records (txn_of e) || is_closed records (txn_of e)) ≡ true) xs
known_of named records [] h = tt
known_of named records (x ∷ xs) h = (here (is_known named records (txn_of x) || is_closed records (txn_of x)) refl, known_of named records xs (λ t unknown. rest t (h t unknown) (is_of t x) refl))
  where
    here : (b : Bool) → (is_known named records (txn_of x) || is_closed records (txn_of x)) ≡ b → (is_known named records (txn_of x) || is_closed records (txn_of x)) ≡ true
    here true is = is
    here false is = absurd (not_nil x (filter (is_of (txn_of x)) xs) (sym (cond-true (is_of (txn_of x) x) (x ∷ filter (is_of (txn_of x)) xs) (filter (is_of (txn_of x)) xs) (eq-eqb (txn_of x) (txn_of x) refl)) ∙ h (txn_of x) is))

    rest : (t : ℕ) → filter (is_of t) (x ∷ xs) ≡ [] → (b : Bool) → is_of t x ≡ b → filter (is_of t) xs ≡ []
    rest t none true is = absurd (not_nil x (filter (is_of t) xs) (sym (cond-true (is_of t x) (x ∷ filter (is_of t) xs) (filter (is_of t) xs) is) ∙ none))
    rest t none false is = sym (cond-false (is_of t x) (x ∷ filter (is_of t) xs) (filter (is_of t) xs) is) ∙ none

known_open : (k c : Bool) → (k || c) ≡ true → c ≡ false → k ≡ true
known_open true c either open_still = refl
known_open false c either open_still = absurd (true≢false (sym either ∙ open_still))

pub all_found : (P : Open → Type 0) (table : List Open) (t : ℕ) (x : Open) → AllByRecursion P table → found_in table t ≡ Some x → P x
all_found P [] t x h is = absurd (none-some x is)
all_found P (y ∷ table) t x h is = grind (arith, same_Some, (all_found P table t x h.1))

module _ (named : List Active) (records : List Entry) (table : List Open) (is : IsTable named records table) (known : (t : ℕ) → (is_known named records t || is_closed records t) ≡ false → entries_of t records ≡ []) where
  abbrev remains : Entry → Bool
  remains e = is_update e.rec && not (is_closed records (txn_of e)) && list_any (λ u. u.lsn == e.lsn) (left_open records (txn_of e))

  -- what is said of an active transaction
  said : (s : ℕ) → is_known named records s ≡ true → is_closed records s ≡ false → found_in table s ≡ Some (open_at named records s)
  said s knows open_still = is.says s ∙ cond-true (is_active named records s) (Some (open_at named records s)) None (ap (λ b. b && not (is_closed records s)) knows ∙ ap not open_still)

  -- nothing of a record remains where its transaction is closed, or no Update of it stands there
  not_remains : (P : Open → Type 0) → AllByRecursion P table → (e : Entry) → (is_known named records (txn_of e) || is_closed records (txn_of e)) ≡ true →
      (P (open_at named records (txn_of e)) → list_any (λ m. m == e.lsn) (map (λ (u : Entry). u.lsn) (left_open records (txn_of e))) ≡ false) → remains e ≡ false
  not_remains P all e knows none = by (is_closed records (txn_of e)) refl
    where
      and_false : (b : Bool) → (b && false) ≡ false
      and_false true = refl
      and_false false = refl

      by : (b : Bool) → is_closed records (txn_of e) ≡ b → remains e ≡ false
      by true closed = ap (λ b. is_update e.rec && not b && list_any (λ u. u.lsn == e.lsn) (left_open records (txn_of e))) closed ∙ ap (λ b. b && list_any (λ u. u.lsn == e.lsn) (left_open records (txn_of e))) (and_false (is_update e.rec))
      by false open_still =
          ap (λ b. is_update e.rec && not (is_closed records (txn_of e)) && b)
          (any_lsn e.lsn (left_open records (txn_of e)) ∙ none (all_found P table (txn_of e) (open_at named records (txn_of e)) all (said (txn_of e) (known_open (is_known named records (txn_of e)) (is_closed records (txn_of e)) knows open_still) open_still)))
          ∙ and_false (is_update e.rec && not (is_closed records (txn_of e)))

  all_known : AllByRecursion (λ e. (is_known named records (txn_of e) || is_closed records (txn_of e)) ≡ true) records
  all_known = known_of named records records known

  pub none_pending : AllByRecursion (λ x. x.updates ≡ []) table → last_where (λ u. true) (pending records) ≡ None
  none_pending none = grind (arith, filter_none, all_both, not_remains, all_known)

  module _ (from to : ℕ) (order : IsInOrder from records to) where
    descends : (s : ℕ) → Descend to (left_open records s)
    descends s = descend_open from to [] (entries_of s records) tt (order_filter (is_of s) from to records order)

    -- the Update of which all else is known
    record IsLeft (t lsn : ℕ) : Type 0 where
      u : Entry
      rest : List Entry
      left : left_open records t ≡ u ∷ rest
      at : u.lsn ≡ lsn
      stands : IsIn records u
      own : txn_of u ≡ t
      update : is_update u.rec ≡ true

    first_left : (t lsn : ℕ) → IsTop lsn (map (λ (u : Entry). u.lsn) (left_open records t)) → IsLeft t lsn
    first_left t lsn top = by (left_open records t) refl top
        (open_all (λ e. IsIn records e × (is_of t e ≡ true)) (λ e. IsIn records e × (is_of t e ≡ true) × (is_update e.rec ≡ true)) (λ e p update. (p.0, p.1, update)) [] (entries_of t records)
        (all_filter_passed (IsIn records) (is_of t) records (all_in records [] records refl)) tt)
      where
        by : (us : List Entry) → left_open records t ≡ us → IsTop lsn (map (λ (u : Entry). u.lsn) us) → AllByRecursion (λ e. IsIn records e × (is_of t e ≡ true) × (is_update e.rec ≡ true)) us → IsLeft t lsn
        by [] left top all = absurd top
        by (u ∷ us) left top all = record { u = u; rest = us; left = left; at = top; stands = all.0.0; own = eqb-true (txn_of u) t all.0.1; update = all.0.2 }

    pub one_pending : (t lsn : ℕ) (x : Open) → found_in table t ≡ Some x → IsTop lsn x.updates → AllByRecursion (λ x. IsAtMost lsn x.updates) table →
        option_map pair_of (last_where (λ u. true) (pending records)) ≡ some_pair t lsn
    one_pending t lsn x there top most =
        let some = active_some named records t x (sym (is.says t) ∙ there) in
        let parts = and_parts (is_known named records t) (not (is_closed records t)) some.0 in
        let left = first_left t lsn (subst (λ (o : Open). IsTop lsn o.updates) (sym some.1) top) in
        let u = left.u in
        let here : remains u ≡ true =
        ap (λ b. b && not (is_closed records (txn_of u)) && list_any (λ v. v.lsn == u.lsn) (left_open records (txn_of u))) left.update
        ∙ ap (λ b. b && list_any (λ v. v.lsn == u.lsn) (left_open records (txn_of u))) (ap (λ s. not (is_closed records s)) left.own ∙ parts.1)
        ∙ ap (λ s. list_any (λ v. v.lsn == u.lsn) (left_open records s)) left.own ∙ ap (list_any (λ v. v.lsn == u.lsn)) left.left ∙ ap (λ b. b || list_any (λ v. v.lsn == u.lsn) left.rest) (eq-eqb u.lsn u.lsn refl) in
        let later = order_back from to left.stands.front u left.stands.back (subst (λ (l : List Entry). IsInOrder from l to) left.stands.is order) in
        let knows = (all_right (λ e. (is_known named records (txn_of e) || is_closed records (txn_of e)) ≡ true) left.stands.front (u ∷ left.stands.back) (subst (AllByRecursion (λ e. (is_known named records (txn_of e) || is_closed records (txn_of e)) ≡ true)) left.stands.is all_known)).1 in
        let none = all_both (λ e. u.lsn < e.lsn) (λ e. (is_known named records (txn_of e) || is_closed records (txn_of e)) ≡ true) (λ e. remains e ≡ false)
        (λ e less knows. not_remains (λ x. IsAtMost lsn x.updates) most e knows (λ first.
        none_above lsn e.lsn (let at = left.at in omega (arith, less, at)) (map (λ (v : Entry). v.lsn) (left_open records (txn_of e))) (all_at_most lsn to (left_open records (txn_of e)) (descends (txn_of e)) first)))
        left.stands.back later knows in
        ap (λ (l : List Entry). option_map pair_of (last_where (λ v. true) (filter remains l))) left.stands.is
        ∙ ap (option_map pair_of) (last_passes remains left.stands.front u left.stands.back here none)
        ∙ same_pair (txn_of u) t u.lsn lsn left.own left.at

    pub next_is : (next : Option (ℕ × ℕ)) → IsNext table next → next ≡ option_map pair_of (last_where (λ u. true) (pending records))
    next_is None none = sym (ap (option_map pair_of) (none_pending none))
    next_is (Some n) next =
        let remains = remains_is table n.0 n.1 is.ascend next.0 in
        sym (one_pending n.0 n.1 remains.x remains.there remains.top next.1)

-- The Updates that remain stand at LSNs of their own.

begin_below : (n : ℕ) (us : List Entry) → Descend n us → BeginBelow n (map (λ (u : Entry). u.lsn) us)
begin_below n [] h = tt
begin_below n (u ∷ us) h = h.0

lsns_descend : (n : ℕ) (us : List Entry) → Descend n us → numbers.Descend (map (λ (u : Entry). u.lsn) us)
lsns_descend n [] h = tt
lsns_descend n (u ∷ us) h = (begin_below u.lsn us h.1, lsns_descend u.lsn us h.1)

all_front : (P : Entry → Type 0) (front : List Entry) (u : Entry) (back : List Entry) → AllByRecursion P front → P u → AllByRecursion P back → AllByRecursion P (front ++ u ∷ back)
all_front P [] u back a p b = (p, b)
all_front P (x ∷ front) u back a p b = (a.0, all_front P front u back a.1 p b)

lower_all : (from to : ℕ) (front : List Entry) (u : Entry) (back : List Entry) → IsInOrder from (front ++ u ∷ back) to → AllByRecursion (λ x. x.lsn < u.lsn) front × (from ≤ u.lsn)
lower_all from to [] u back order = (tt, order.0)
lower_all from to (x ∷ front) u back order =
    let rest = lower_all (x.lsn + 1) to front u back order.1 in
    let far = rest.1 in
    let low = order.0 in
    ((omega (arith, far), rest.0), omega (arith, far, low))

one_at : (from to : ℕ) (records : List Entry) → IsInOrder from records to → (u v : Entry) → IsIn records u → IsIn records v → u.lsn ≡ v.lsn → v ≡ u
one_at from to records order u v here there same =
    let ordered = subst (λ (l : List Entry). IsInOrder from l to) here.is order in
    let all = all_front (λ x. x.lsn ≡ u.lsn → x ≡ u) here.front u here.back
    (all_weaker (λ x. x.lsn < u.lsn) (λ x. x.lsn ≡ u.lsn → x ≡ u) (λ x less e. absurd (omega (arith, less, e))) here.front (lower_all from to here.front u here.back ordered).0)
    (λ e. refl)
    (all_weaker (λ x. u.lsn < x.lsn) (λ x. x.lsn ≡ u.lsn → x ≡ u) (λ x less e. absurd (omega (arith, less, e))) here.back (order_back from to here.front u here.back ordered)) in
    (all_right (λ x. x.lsn ≡ u.lsn → x ≡ u) there.front (v ∷ there.back) (subst (AllByRecursion (λ x. x.lsn ≡ u.lsn → x ≡ u)) (sym here.is ∙ there.is) all)).0 (sym same)

record IsLeftAt (records : List Entry) (t n : ℕ) : Type 0 where
  u : Entry
  stands : IsIn records u
  own : txn_of u ≡ t
  at : u.lsn ≡ n

left_at : (records : List Entry) (t n : ℕ) → list_any (λ m. m == n) (map (λ (u : Entry). u.lsn) (left_open records t)) ≡ true → IsLeftAt records t n
left_at records t n any = by (left_open records t)
    (open_all (λ e. IsIn records e × (is_of t e ≡ true)) (λ e. IsIn records e × (is_of t e ≡ true)) (λ e p update. p) [] (entries_of t records) (all_filter_passed (IsIn records) (is_of t) records (all_in records [] records refl)) tt) any
  where
    by : (us : List Entry) → AllByRecursion (λ e. IsIn records e × (is_of t e ≡ true)) us → list_any (λ m. m == n) (map (λ (u : Entry). u.lsn) us) ≡ true → IsLeftAt records t n
    by [] all any = absurd (true≢false (sym any))
    by (u ∷ us) all any = or (u.lsn == n) refl (by us all.1)
      where
        or : (b : Bool) → (u.lsn == n) ≡ b → (list_any (λ m. m == n) (map (λ (v : Entry). v.lsn) us) ≡ true → IsLeftAt records t n) → IsLeftAt records t n
        or true here rest = record { u = u; stands = all.0.0; own = eqb-true (txn_of u) t all.0.1; at = eqb-true u.lsn n here }
        or false other rest = rest (sym (ap (λ b. b || list_any (λ m. m == n) (map (λ (v : Entry). v.lsn) us)) other) ∙ any)

module _ (named : List Active) (records : List Entry) (table : List Open) (is : IsTable named records table) (from to : ℕ) (order : IsInOrder from records to) where
  open_updates_of : (t : ℕ) (x : Open) → found_in table t ≡ Some x → x.updates ≡ map (λ (u : Entry). u.lsn) (left_open records t)
  open_updates_of t x found = ap (λ (o : Open). o.updates) (sym (active_some named records t x (sym (is.says t) ∙ found)).1)

  pub updates_descend : (t : ℕ) (x : Open) → found_in table t ≡ Some x → numbers.Descend x.updates
  updates_descend t x found =
      subst numbers.Descend (sym (open_updates_of t x found)) (lsns_descend to (left_open records t) (descend_open from to [] (entries_of t records) tt (order_filter (is_of t) from to records order)))

  pub updates_apart : (s t n : ℕ) (x y : Open) → found_in table s ≡ Some x → found_in table t ≡ Some y → list_any (λ m. m == n) x.updates ≡ true → list_any (λ m. m == n) y.updates ≡ true → s ≡ t
  updates_apart s t n x y first second one other =
      let a = left_at records s n (ap (list_any (λ m. m == n)) (sym (open_updates_of s x first)) ∙ one) in
      let b = left_at records t n (ap (list_any (λ m. m == n)) (sym (open_updates_of t y second)) ∙ other) in
      sym a.own ∙ ap txn_of (sym (one_at from to records order a.u b.u a.stands b.stands (a.at ∙ sym b.at))) ∙ b.own
