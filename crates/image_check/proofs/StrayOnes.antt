-- Unfinished transactions, with their Begin and without.
use Rattle.std.proofs.lemmas.Grind.{common_steps}
use Rattle.image_check.proofs.Names.{◌≡◌, ◌⊎◌, ℕ, ◌+◌, ◌<◌, ◌≤◌, inl, inr, Bool, true, false, true≢false, not, ◌&&◌, ◌||◌, cond, nat_eq, List, [], ◌∷◌, ◌++◌, map, drop, Option, Some, None, refl, sym, ap, subst, ◌∙◌, arith, and_parts, and_from, cases_Bool, eqb-true, eq-eqb, not-true, not_from_false, or_left, or_right, filter-append, list_any-append, none-some, get_or_from_slice_get, list_any, lookup, filter, slice_get, is_some, IfSome, IsKept, Keeps, StandsIn, StandsThere, Breaks, HearsOwn, AreChains, AreStrays, begin_at, Chain, Chains, LosersCanBeUndone, IndexMap, get, listed_is_loser, fresh_of, filter_none, InTurn-right, all_below, closed_push, closed_same, in_order_left, Entry, txn_of, is_of, is_closing, is_closed, entries_of, LogicalImage, IsInOrder, IsLoserChain, HaveBegunBefore, is_begin, losers, all_left}
use Rattle.std.specs.Prelude.{◌==◌}
use Rattle.image_check.proofs.ChainOnes.{other_same, own_more}
use Rattle.image_check.proofs.HeldOnes.{chain_listed}
use Rattle.log_judge.proofs.OpenOnes.{begin_only}

-- A transaction on the list has its Begin, and this is its first record.

abbrev begins_there : ℕ → Entry → Bool
begins_there t x = is_begin x.rec && (x.lsn == t)

begin_listed : (closed : ℕ → Bool) (t : ℕ) (xs : List Entry) → list_any (λ n. n == t) (map (λ (x : Entry). x.lsn) (filter (λ x. is_begin x.rec && not (closed x.lsn)) xs)) ≡ true → list_any (begins_there t) xs ≡ true
begin_listed closed t [] some = grind (arith, common_steps)
begin_listed closed t (x ∷ xs) some = grind (arith, common_steps, or_right, (begin_listed closed t xs))

is_begin_at : (t : ℕ) (x : Entry) → begins_there t x ≡ true → x ≡ begin_at t
is_begin_at t x is = grind (arith, common_steps, and_parts, eqb-true, begin_only)

-- no record before a place is of that Begin
none_there : (t from : ℕ) (xs : List Entry) (to : ℕ) → t < from → IsInOrder from xs to → list_any (begins_there t) xs ≡ false
none_there t from [] to less order = refl
none_there t from (x ∷ xs) to less order =
    let here = order.0 in
    (λ i. other i || none_there t (x.lsn + 1) xs to (omega (arith, less, here)) order.1 i)
  where
    other : begins_there t x ≡ false
    other = elim (cases_Bool (begins_there t x)) [
      | inl same ↦ let is : x.lsn ≡ t = ap (λ (e : Entry). e.lsn) (is_begin_at t x same) in let here = order.0 in absurd (omega (arith, is, here, less))
      | inr apart ↦ apart
    ]

begins_first : (t from : ℕ) (xs : List Entry) (to : ℕ) → IsInOrder from xs to → HaveBegunBefore xs → list_any (begins_there t) xs ≡ true → entries_of t xs ≡ begin_at t ∷ drop 1 (entries_of t xs)
begins_first t from [] to order begun some = grind (arith, common_steps)
begins_first t from (x ∷ xs) to order begun some = grind (arith, common_steps, is_begin_at, eqb-true, none_there, eq-eqb, (begins_first t (x.lsn + 1) xs to order.1 begun.1))

pub first_is : (log : List Entry) (t from to : ℕ) → IsInOrder from log to → HaveBegunBefore log → list_any (λ n. n == t) (losers log) ≡ true → entries_of t log ≡ begin_at t ∷ drop 1 (entries_of t log)
first_is log t from to order begun listed = begins_first t from log to order begun (begin_listed (is_closed log) t log listed)

-- so where a record stands is known
pub stands_there : (log front : List Entry) (e : Entry) (back : List Entry) (t from to : ℕ) → log ≡ front ++ e ∷ back → IsInOrder from log to → HaveBegunBefore log → list_any (λ n. n == t) (losers log) ≡ true → StandsThere t front e
stands_there log front e back t from to split order begun listed = record {
  first = λ own same.
      let before = all_below from front e.lsn (in_order_left from front e back to (subst (λ (l : List Entry). IsInOrder from l to) split order)) in
      let low = all_left (λ x. txn_of x ≤ x.lsn) front (e ∷ back) (subst HaveBegunBefore split begun) in
      let fresh = fresh_of e.lsn front before low in
      ap (λ (n : ℕ). entries_of n front) (sym same) ∙ filter_none (is_of e.lsn) front fresh;
  later = λ own other. by (entries_of t front) refl own other;
}
  where
    whole : is_of t e ≡ true → entries_of t front ++ e ∷ entries_of t back ≡ begin_at t ∷ drop 1 (entries_of t log)
    whole own =
        sym (ap (entries_of t) split ∙ filter-append (is_of t) front (e ∷ back) ∙ ap (λ (b : Bool). entries_of t front ++ cond b (e ∷ entries_of t back) (entries_of t back)) own)
        ∙ first_is log t from to order begun listed

    by : (l : List Entry) → entries_of t front ≡ l → is_of t e ≡ true → (e.lsn ≡ t → ⊥) → entries_of t front ≡ begin_at t ∷ drop 1 (entries_of t front)
    by [] none own other =
        let same : e ∷ entries_of t back ≡ begin_at t ∷ drop 1 (entries_of t log) = sym (ap (λ (l : List Entry). l ++ e ∷ entries_of t back) none) ∙ whole own in
        let here : e ≡ begin_at t = cc in
        absurd (other (ap (λ (x : Entry). x.lsn) here))
    by (y ∷ ys) some own other =
        let same : y ∷ (ys ++ e ∷ entries_of t back) ≡ begin_at t ∷ drop 1 (entries_of t log) = sym (ap (λ (l : List Entry). l ++ e ∷ entries_of t back) some) ∙ whole own in
        let here : y ≡ begin_at t = cc in
        some ∙ ap (λ (x : Entry). x ∷ ys) here ∙ ap (λ (l : List Entry). begin_at t ∷ drop 1 l) (sym some)

-- where one breaks the chain there is none
pub chain_broken : (log front : List Entry) (e : Entry) (back : List Entry) (t : ℕ) → log ≡ front ++ e ∷ back → StandsThere t front e → Breaks t front e → IsLoserChain t (entries_of t log) → ⊥
chain_broken log front e back t split there broken chain = grind (arith, common_steps, filter-append, InTurn-right)

-- One record more of one of them.

abbrev Listed : List Entry → ℕ → Type 0
Listed log t = list_any (λ n. n == t) (losers log) ≡ true

there_of : (log records : List Entry) (e : Entry) → StandsIn log records e → (t : ℕ) → Listed log t → StandsThere t records e
there_of log records e at t listed = stands_there log records e at.back t at.from at.to at.is at.in_order at.begun listed

pub chains_first : (log : List Entry) (chains : Chains) → chains.chains.entries ≡ [] → chains.broken ≡ None → AreChains log [] chains
chains_first log chains empty whole = grind (arith, common_steps, nat_eq)

module _ (log records : List Entry) (e : Entry) (at : StandsIn log records e) (old new : Chains) (chain : Chain) (goes_on : Bool) (own : Listed log (txn_of e)) (is : AreChains log records old)
    (hears : Keeps (txn_of e) (get nat_eq old.chains (txn_of e)) (drop 1 (entries_of (txn_of e) records)) → HearsOwn (txn_of e) chain records e goes_on) where
  elsewhere : (t : ℕ) → (txn_of e == t) ≡ false → get nat_eq new.chains t ≡ get nat_eq old.chains t → (old.broken ≡ None) ⊎ IsLoserChain t (entries_of t log) → Listed log t →
      Keeps t (get nat_eq new.chains t) (drop 1 (entries_of t (records ++ e ∷ [])))
  elsewhere t other same stands listed = subst (λ (o : Option Chain). Keeps t o (drop 1 (entries_of t (records ++ e ∷ [])))) (sym same)
      (subst (λ (l : List Entry). Keeps t (get nat_eq old.chains t) (drop 1 l)) (sym (other_same t records e other)) (is.kept t listed stands))

  pub chains_go_on : goes_on ≡ true → ((t : ℕ) → get nat_eq new.chains t ≡ cond (txn_of e == t) (Some chain) (get nat_eq old.chains t)) → new.broken ≡ old.broken → AreChains log (records ++ e ∷ []) new
  chains_go_on on updates whole = record {
    kept = λ t listed stands.
        let before : (old.broken ≡ None) ⊎ IsLoserChain t (entries_of t log) = elim stands [
          | inl none ↦ inl (sym whole ∙ none)
          | inr fits ↦ inr fits
        ] in
        elim (cases_Bool (txn_of e == t)) [
          | inl here ↦
              let same : txn_of e ≡ t = eqb-true (txn_of e) t here in
              subst (λ (o : Option Chain). Keeps t o (drop 1 (entries_of t (records ++ e ∷ [])))) (sym (updates t ∙ ap (λ (b : Bool). cond b (Some chain) (get nat_eq old.chains t)) here))
              (subst (λ (n : ℕ). IsKept n chain (drop 1 (entries_of n (records ++ e ∷ [])))) same
              ((hears (is.kept (txn_of e) own (subst (λ (n : ℕ). (old.broken ≡ None) ⊎ IsLoserChain n (entries_of n log)) (sym same) before))).heard (there_of log records e at (txn_of e) own) on))
          | inr other ↦ elsewhere t other (updates t ∙ ap (λ (b : Bool). cond b (Some chain) (get nat_eq old.chains t)) other) before listed
        ];
    broken = subst (λ (o : Option ℕ). IfSome o (λ t. Listed log t × (IsLoserChain t (entries_of t log) → ⊥))) (sym whole) is.broken;
  }

  pub chains_break : goes_on ≡ false → ((t : ℕ) → get nat_eq new.chains t ≡ cond (txn_of e == t) None (get nat_eq old.chains t)) →
      (least : ℕ) → (least ≡ txn_of e) ⊎ (old.broken ≡ Some least) → new.broken ≡ Some least → AreChains log (records ++ e ∷ []) new
  chains_break off updates least which found = grind (arith, common_steps, none-some, eqb-true, elsewhere, nat_eq, there_of, chain_broken)

-- its Begin
pub chains_begin : (log records : List Entry) (e : Entry) → StandsIn log records e → (chains : Chains) → e.lsn ≡ txn_of e → AreChains log records chains → AreChains log (records ++ e ∷ []) chains
chains_begin log records e at chains begins is = record {
  kept = λ t listed stands. subst (Keeps t (get nat_eq chains.chains t)) (sym (same t listed)) (is.kept t listed stands);
  broken = is.broken;
}
  where
    same : (t : ℕ) → Listed log t → drop 1 (entries_of t (records ++ e ∷ [])) ≡ drop 1 (entries_of t records)
    same t listed = elim (cases_Bool (is_of t e)) [
      | inl own ↦
          let none : entries_of t records ≡ [] = (there_of log records e at t listed).first own (begins ∙ eqb-true (txn_of e) t own) in
          ap (drop 1) (own_more t records e own ∙ ap (λ (l : List Entry). l ++ e ∷ []) none) ∙ sym (ap (drop 1) none)
      | inr other ↦ ap (drop 1) (other_same t records e other)
    ]

-- one of another one
pub chains_same : (log records : List Entry) (e : Entry) (chains : Chains) → list_any (λ n. n == txn_of e) (losers log) ≡ false → AreChains log records chains → AreChains log (records ++ e ∷ []) chains
chains_same log records e chains unlisted is = record {
  kept = λ t listed stands. elim (cases_Bool (is_of t e)) [
    | inl own ↦ absurd (true≢false (sym listed ∙ ap (λ (n : ℕ). list_any (λ m. m == n) (losers log)) (sym (eqb-true (txn_of e) t own)) ∙ unlisted))
    | inr other ↦ subst (λ (l : List Entry). Keeps t (get nat_eq chains.chains t) (drop 1 l)) (sym (other_same t records e other)) (is.kept t listed stands)
  ];
  broken = is.broken;
}

-- One record more of another one.

before_it : (records : List Entry) (e : Entry) (t : ℕ) → is_of t e ≡ false → list_any (is_of t) (records ++ e ∷ []) ≡ true → list_any (is_of t) records ≡ true
before_it records e t other some = grind (arith, common_steps, list_any-append)

still_there : (records : List Entry) (e : Entry) (t : ℕ) → list_any (is_of t) records ≡ true → list_any (is_of t) (records ++ e ∷ []) ≡ true
still_there records e t some = list_any-append (is_of t) records (e ∷ []) ∙ or_left (list_any (is_of t) records) (list_any (is_of t) (e ∷ [])) some

pub strays_same : {S : Type 0} (log records : List Entry) (e : Entry) (txns : IndexMap ℕ ℕ S) → Listed log (txn_of e) → AreStrays log records txns → AreStrays log (records ++ e ∷ []) txns
strays_same log records e txns own is = grind (arith, common_steps, eqb-true, or_left, nat_eq, closed_same, before_it, still_there)

pub strays_more : {S : Type 0} (log records : List Entry) (e : Entry) (old new : IndexMap ℕ ℕ S) → list_any (λ n. n == txn_of e) (losers log) ≡ false →
    ((t : ℕ) → is_some (get nat_eq new t) ≡ cond (txn_of e == t) (not (is_closing e.rec)) (is_some (get nat_eq old t))) → AreStrays log records old → AreStrays log (records ++ e ∷ []) new
strays_more log records e old new unlisted updates is = grind (arith, common_steps, nat_eq, closed_push, before_it, closed_same, list_any-append, or_right, or_left, eqb-true, still_there)

pub strays_first : {S : Type 0} (log : List Entry) (txns : IndexMap ℕ ℕ S) → txns.entries ≡ [] → AreStrays log [] txns
strays_first log txns empty = grind (arith, common_steps, nat_eq)

pub stray_first : {S : Type 0} (txns : IndexMap ℕ ℕ S) (t lsn : ℕ) → slice_get txns.entries 0 ≡ Some (t, lsn) → is_some (get nat_eq txns t) ≡ true
stray_first txns t lsn there = by txns.entries there
  where
    by : (es : List (ℕ × ℕ)) → slice_get es 0 ≡ Some (t, lsn) → is_some (lookup (nat_eq t) es) ≡ true
    by [] none = absurd (none-some (t, lsn) none)
    by (e ∷ es) is =
        let same : e.0 ≡ t = ap (λ (p : ℕ × ℕ). p.0) (get_or_from_slice_get (e ∷ es) 0 (t, lsn) (t, lsn) is) in
        ap (λ (b : Bool). is_some (cond b (Some e.1) (lookup (nat_eq t) es))) (eq-eqb t e.0 (sym same))

-- What no record has closed.

pub closing_more : (records : List Entry) (e : Entry) (t : ℕ) (some : Bool) → cond (txn_of e == t && is_closing e.rec) false (some && not (is_closed records t)) ≡ (some && not (is_closed (records ++ e ∷ []) t))
closing_more records e t some = grind (arith, common_steps, closed_push)

-- The rule.

abbrev pub HaveChains : List Entry → Type 0
HaveChains log = (t : ℕ) → list_any (λ n. n == t) (losers log) ≡ true → IsLoserChain t (entries_of t log)

abbrev pub AreClosed : {S : Type 0} → List Entry → IndexMap ℕ ℕ S → Type 0
AreClosed log txns = (t : ℕ) → is_some (get nat_eq txns t) ≡ true → is_closed log t ≡ true

pub fourth_of : {S : Type 0} (p : LogicalImage) (txns : IndexMap ℕ ℕ S) → AreStrays p.log p.log txns → HaveChains p.log → AreClosed p.log txns → LosersCanBeUndone p
fourth_of p txns strays chains closed t loser = grind (arith, common_steps, and_parts, not-true, nat_eq)

-- where none was found that can't be undone, each one can
pub chains_whole : (from to : ℕ) (log : List Entry) (chains : Chains) → IsInOrder from log to → HaveBegunBefore log → AreChains log log chains → chains.broken ≡ None → HaveChains log
chains_whole from to log chains order begun is whole t listed = grind (arith, common_steps, nat_eq, first_is)

pub chains_of : (p : LogicalImage) → LosersCanBeUndone p → HaveChains p.log
chains_of p rule t listed = rule t (listed_is_loser p.log t listed)

pub closed_of : {S : Type 0} (p : LogicalImage) (txns : IndexMap ℕ ℕ S) → AreStrays p.log p.log txns → LosersCanBeUndone p → AreClosed p.log txns
closed_of p txns strays rule t stray = grind (arith, common_steps, and_from, not_from_false, chain_listed)
