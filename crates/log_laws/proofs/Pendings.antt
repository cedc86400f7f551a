-- All Updates that no CLR compensates, as one after the other is compensated.
use Rattle.std.proofs.lemmas.Grind.{common_steps}
use Rattle.log_laws.proofs.Names.{◌≡◌, ℕ, ◌+◌, ◌≤◌, ◌<◌, Bool, true, false, not, ◌&&◌, ◌||◌, List, [], ◌∷◌, ◌++◌, None, Some, true≢false, refl, sym, ap, ◌∙◌, arith, subst, eq-eqb, ne_eqb, eqb-true, reverse-append, filter-append, none-some, same_Some, AllByRecursion, list_any, option_or, if◌then◌else◌, filter, reverse, Entry, txn_of, is_of, is_update, is_closing, is_closed, last_where, IsInOrder, is_clr, open_by, left_open, pending, LogRecord, End}
use Rattle.log_laws.proofs.Parts.{in_order_filter}
use Rattle.std.proofs.Math.Bool.{and-false, and-true}
use Rattle.log_laws.proofs.Orders.{filter_all}
use Rattle.std.proofs.Common.{◌==◌, append-nil, Option}
use Rattle.log_laws.proofs.Owing.{left_push}
use Rattle.log_laws.proofs.OpenUpdates.{left_after_clr}
use Rattle.std.specs.Prelude.{drop}

-- Lists.

filter_same : (p q : Entry → Bool) (xs : List Entry) → ((x : Entry) → p x ≡ q x) → filter p xs ≡ filter q xs
filter_same p q [] same = refl
filter_same p q (x ∷ xs) same = grind (arith, (filter_same p q xs same))

filter_twice : (p q : Entry → Bool) (xs : List Entry) → filter (λ x. p x && q x) xs ≡ filter q (filter p xs)
filter_twice p q [] = refl
filter_twice p q (x ∷ xs) = grind (arith, (filter_twice p q xs))

-- without a last one there is none
pub none_last : (xs : List Entry) → last_where (λ v. true) xs ≡ None → xs ≡ []
none_last [] none = refl
none_last (x ∷ xs) none = grind (arith, none-some)

-- the last of all is the last
pub last_is : (xs : List Entry) (u : Entry) → last_where (λ v. true) xs ≡ Some u → (front : List Entry) × (xs ≡ front ++ u ∷ [])
last_is [] u is = absurd (none-some u is)
last_is (x ∷ xs) u is = by (last_where (λ v. true) xs) refl (last_is xs u)
  where
    by : (o : Option Entry) → last_where (λ v. true) xs ≡ o → (last_where (λ v. true) xs ≡ Some u → (front : List Entry) × (xs ≡ front ++ u ∷ [])) → (front : List Entry) × (x ∷ xs ≡ front ++ u ∷ [])
    by None none later =
        let same : x ≡ u = same_Some x u (sym (ap (λ (o : Option Entry). option_or o (Some x)) none) ∙ is) in
        ([], ap (λ (l : List Entry). x ∷ l) (none_last xs none) ∙ ap (λ (y : Entry). y ∷ []) same)
    by (Some z) some later =
        let same : z ≡ u = same_Some z u (sym (ap (λ (o : Option Entry). option_or o (Some x)) some) ∙ is) in
        let found = later (some ∙ ap (λ (y : Entry). Some y) same) in
        (x ∷ found.0, ap (λ (l : List Entry). x ∷ l) found.1)

-- the records before the last one have smaller LSNs
before_last : (from to : ℕ) (front : List Entry) (u : Entry) → IsInOrder from (front ++ u ∷ []) to → (from ≤ u.lsn) × AllByRecursion (λ v. v.lsn < u.lsn) front
before_last from to [] u order = (order.0, tt)
before_last from to (x ∷ front) u order = grind (arith, (before_last (x.lsn + 1) to front u order.1))

-- Which records are pending.

abbrev pub waits : List Entry → Entry → Bool
waits log e = is_update e.rec && not (is_closed log (txn_of e)) && list_any (λ u. u.lsn == e.lsn) (left_open log (txn_of e))

-- one that isn't an Update adds nothing by itself
pending_more : (records : List Entry) (c : Entry) → is_update c.rec ≡ false → pending (records ++ c ∷ []) ≡ filter (waits (records ++ c ∷ [])) records
pending_more records c other = grind (arith, common_steps)

-- a record that closes nothing closes nothing
closed_stays : (records : List Entry) (c : Entry) (t : ℕ) → (is_of t c && is_closing c.rec) ≡ false → is_closed (records ++ c ∷ []) t ≡ is_closed records t
closed_stays records c t not_closed = grind (arith, common_steps)

-- another transaction's record leaves what is left
left_stays : (records : List Entry) (c : Entry) (t : ℕ) → is_of t c ≡ false → left_open (records ++ c ∷ []) t ≡ left_open records t
left_stays records c t other = left_push records c t ∙ ap (λ (b : Bool). if b then open_by (left_open records t) c c.rec else left_open records t) other

waits_same : (records records' : List Entry) (e : Entry) → is_closed records' (txn_of e) ≡ is_closed records (txn_of e) → left_open records' (txn_of e) ≡ left_open records (txn_of e) → waits records' e ≡ waits records e
waits_same records records' e closed left = grind arith

-- The CLR of the last of all.

-- the Update that is compensated waits no more
taken_off : (any head : Bool) → (head ≡ true → any ≡ false) → any ≡ ((head || any) && not (head && true))
taken_off any x1 none = grind (arith, common_steps)

regroup : (a b x y : Bool) → (a && b && (x && y)) ≡ ((a && b && x) && y)
regroup x0 x1 x y = grind (arith, common_steps)

none_there : (n : ℕ) (xs : List Entry) → AllByRecursion (λ v. v.lsn < n) xs → list_any (λ v. v.lsn == n) xs ≡ false
none_there n [] all = refl
none_there n (x ∷ xs) all = grind (arith, ne_eqb, (none_there n xs all.1))

pub not_closing : (rec : LogRecord) → is_clr rec ≡ true → (is_closing rec ≡ false) × (is_update rec ≡ false)
not_closing x0 clr = grind (arith, common_steps, true≢false)

module _ (records : List Entry) (c u : Entry) (rest : List Entry) (clr : is_clr c.rec ≡ true) (left : left_open records (txn_of c) ≡ u ∷ rest) (falls : AllByRecursion (λ v. v.lsn < u.lsn) rest) where
  abbrev gone : Entry → Bool
  gone e = u.lsn == e.lsn && is_of (txn_of e) c

  closed_still : (t : ℕ) → is_closed (records ++ c ∷ []) t ≡ is_closed records t
  closed_still t = closed_stays records c t (ap (λ (b : Bool). is_of t c && b) (not_closing c.rec clr).0 ∙ and-false (is_of t c))

  waits_on : (e : Entry) → waits (records ++ c ∷ []) e ≡ (waits records e && not (gone e))
  waits_on e = by (is_of (txn_of e) c) refl
    where
      by : (b : Bool) → is_of (txn_of e) c ≡ b → waits (records ++ c ∷ []) e ≡ (waits records e && not (gone e))
      by false other =
          waits_same records (records ++ c ∷ []) e (closed_still (txn_of e)) (left_stays records c (txn_of e) other)
          ∙ sym (ap (λ (b : Bool). waits records e && not (u.lsn == e.lsn && b)) other ∙ ap (λ (b : Bool). waits records e && not b) (and-false (u.lsn == e.lsn)) ∙ and-true (waits records e))
      by true own =
          let t : txn_of c ≡ txn_of e = eqb-true (txn_of c) (txn_of e) own in
          let was : left_open records (txn_of e) ≡ u ∷ rest = sym (ap (left_open records) t) ∙ left in
          let is : left_open (records ++ c ∷ []) (txn_of e) ≡ rest = left_after_clr records c (txn_of e) clr t ∙ ap (drop 1) was in
          let any : list_any (λ v. v.lsn == e.lsn) rest ≡ ((u.lsn == e.lsn || list_any (λ v. v.lsn == e.lsn) rest) && not (u.lsn == e.lsn && true)) =
          taken_off (list_any (λ v. v.lsn == e.lsn) rest) (u.lsn == e.lsn)
          (λ same. subst (λ (n : ℕ). list_any (λ v. v.lsn == n) rest ≡ false) (eqb-true u.lsn e.lsn same) (none_there u.lsn rest falls)) in
          ap (λ (b : Bool). is_update e.rec && not b && list_any (λ v. v.lsn == e.lsn) (left_open (records ++ c ∷ []) (txn_of e))) (closed_still (txn_of e))
          ∙ ap (λ (l : List Entry). is_update e.rec && not (is_closed records (txn_of e)) && list_any (λ v. v.lsn == e.lsn) l) is
          ∙ ap (λ (b : Bool). is_update e.rec && not (is_closed records (txn_of e)) && b) any
          ∙ regroup (is_update e.rec) (not (is_closed records (txn_of e))) (u.lsn == e.lsn || list_any (λ v. v.lsn == e.lsn) rest) (not (u.lsn == e.lsn && true))
          ∙ ap (λ (l : List Entry). (is_update e.rec && not (is_closed records (txn_of e)) && list_any (λ v. v.lsn == e.lsn) l) && not (u.lsn == e.lsn && true)) (sym was)
          ∙ ap (λ (b : Bool). waits records e && not (u.lsn == e.lsn && b)) (sym own)

  others_stay : (front : List Entry) → AllByRecursion (λ v. v.lsn < u.lsn) front → AllByRecursion (λ v. not (gone v) ≡ true) front
  others_stay [] all = tt
  others_stay (v ∷ front) all = grind (arith, ne_eqb, (others_stay front all.1))

  -- what is pending loses its last one
  pub pending_after_clr : (from to : ℕ) → IsInOrder from records to → last_where (λ v. true) (pending records) ≡ Some u → txn_of u ≡ txn_of c → pending records ≡ pending (records ++ c ∷ []) ++ u ∷ []
  pending_after_clr from to order last own =
      let split = last_is (pending records) u last in
      let front = split.0 in
      let below = (before_last from to front u (subst (λ (l : List Entry). IsInOrder from l to) split.1 (in_order_filter (waits records) from records to order))).1 in
      let leaves : gone u ≡ true = ap (λ (b : Bool). b && is_of (txn_of u) c) (eq-eqb u.lsn u.lsn refl) ∙ eq-eqb (txn_of c) (txn_of u) (sym own) in
      let now : pending (records ++ c ∷ []) ≡ front =
      pending_more records c (not_closing c.rec clr).1
      ∙ filter_same (waits (records ++ c ∷ [])) (λ e. waits records e && not (gone e)) records waits_on
      ∙ filter_twice (waits records) (λ e. not (gone e)) records
      ∙ ap (filter (λ e. not (gone e))) split.1
      ∙ filter-append (λ e. not (gone e)) front (u ∷ [])
      ∙ ap (λ (b : Bool). filter (λ e. not (gone e)) front ++ (if not b then u ∷ [] else [])) leaves
      ∙ append-nil (filter (λ e. not (gone e)) front)
      ∙ filter_all (λ e. not (gone e)) front (others_stay front below) in
      split.1 ∙ ap (λ (l : List Entry). l ++ u ∷ []) (sym now)

pub reversed : (xs ys : List Entry) (u : Entry) → xs ≡ ys ++ u ∷ [] → reverse xs ≡ u ∷ reverse ys
reversed xs ys u is = ap reverse is ∙ reverse-append ys (u ∷ [])

-- An End of a transaction of which nothing is left.

module _ (records : List Entry) (lsn t : ℕ) (none : left_open records t ≡ []) where
  abbrev closing : Entry
  closing = record { lsn = lsn; rec = End t }

  waits_still : (e : Entry) → waits (records ++ closing ∷ []) e ≡ waits records e
  waits_still e = grind (arith, common_steps)

  -- what is pending stays
  pub pending_after_end : pending (records ++ closing ∷ []) ≡ pending records
  pending_after_end = pending_more records closing refl ∙ filter_same (waits (records ++ closing ∷ [])) (waits records) records waits_still
