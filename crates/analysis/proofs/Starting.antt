-- The table of the transactions that a master names.
use Rattle.analysis.proofs.Names.{zero, ◌++◌, take, drop, get_or, slice_get, reverse, sym, ◌∙◌, ◌≡◌, ℕ, suc, ◌+◌, ◌<◌, ◌≤◌, ◌==◌, cond, List, [], ◌∷◌, length, map, Some, None, refl, ap, subst, arith, eqb-true, take_more, map-append, sum_by-cons, same_Some, get_or_from_slice_get, BTreeMap, insert_entry, list_any, AllByRecursion, nat_cmp, slice_index_or, Open, found_in, AscendFrom, owed_one, owed_for, last_named, IsTable, open_of, Transaction, Active}
use Rattle.std_lemmas.proofs.Entries.{AreBelow, insert_last}
use Rattle.checkpoint.specs.declared.pairs.Pair.{Pair}
use Rattle.checkpoint.specs.Actives.{no_pair, Ascend}

abbrev pub active_of : Pair → Active
active_of pair = record { begin = pair.begin; last = pair.last }

abbrev pub fresh : Pair → Open
fresh pair = record { txn = pair.begin; last = pair.last; updates = [] }

later_ascend : (p : Pair) (pairs : List Pair) → Ascend (p ∷ pairs) → Ascend pairs
later_ascend p pairs ascend i less = subst (λ n. (slice_index_or pairs i no_pair).begin < (slice_index_or (p ∷ pairs) n no_pair).begin) (step i) (ascend (suc i) (omega (arith, less)))
  where
    step : (i : ℕ) → suc i + 1 ≡ suc (i + 1)
    step i = omega arith

fresh_ascend : (n : ℕ) (pairs : List Pair) → Ascend pairs → ((p : Pair) (rest : List Pair) → pairs ≡ p ∷ rest → n ≤ p.begin) → AscendFrom n (map fresh pairs)
fresh_ascend n [] ascend low = tt
fresh_ascend n (p ∷ []) ascend low = (low p [] refl, tt)
fresh_ascend n (p ∷ q ∷ pairs) ascend low =
    (low p (q ∷ pairs) refl, (omega (arith, ascend 0 (omega arith)), (fresh_ascend (p.begin + 1) (q ∷ pairs) (λ i less. later i less) (λ r rest is. first r rest is)).1))
  where
    first : (r : Pair) (rest : List Pair) → q ∷ pairs ≡ r ∷ rest → p.begin + 1 ≤ r.begin
    first r rest is = let same = ap (λ (l : List Pair). (slice_index_or l 0 no_pair).begin) is in let less = ascend 0 (omega arith) in omega (arith, same, less)

    step : (i : ℕ) → suc i + 1 ≡ suc (i + 1)
    step i = omega arith

    later : (i : ℕ) → i + 1 < length (q ∷ pairs) → (slice_index_or (q ∷ pairs) i no_pair).begin < (slice_index_or (q ∷ pairs) (i + 1) no_pair).begin
    later i less =
        subst (λ n. (slice_index_or (q ∷ pairs) i no_pair).begin < (slice_index_or (p ∷ q ∷ pairs) n no_pair).begin) (step i) (ascend (suc i) (omega (arith, less)))

fresh_says : (pairs : List Pair) (t : ℕ) → found_in (map fresh pairs) t ≡ cond (list_any (λ (a : Active). a.begin == t) (map active_of pairs)) (Some (record { txn = t; last = last_named (map active_of pairs) t; updates = [] })) None
fresh_says [] t = refl
fresh_says (p ∷ pairs) t = grind (arith, eqb-true, (fresh_says pairs t))

pub named_table : (pairs : List Pair) → Ascend pairs → IsTable (map active_of pairs) [] (map fresh pairs)
named_table pairs ascend = grind (arith, fresh_ascend, fresh_says)

-- nothing of them is known to remain
pub owed_fresh : (pairs : List Pair) → owed_for (map fresh pairs) ≡ length pairs
owed_fresh [] = refl
owed_fresh (p ∷ pairs) = omega (arith, sum_by-cons owed_one (fresh p) (map fresh pairs), owed_fresh pairs)

-- One more that a master names goes behind those before it.

first_below : (ps : List Pair) (k : ℕ) (o p : Pair) → Ascend (o ∷ ps) → k < length ps → slice_get ps k ≡ Some p → o.begin < p.begin
first_below [] k o p up room is = absurd (omega (arith, room))
first_below (r ∷ ps) zero o p up room is = let one = up 0 (omega arith) in let same = ap (λ (x : Pair). x.begin) (same_Some r p is) in omega (arith, one, same)
first_below (r ∷ ps) (suc k) o p up room is = let one = up 0 (omega arith) in let far = first_below ps k r p (later_ascend o (r ∷ ps) up) (omega (arith, room)) is in omega (arith, one, far)

named_below : (pairs : List Pair) (n : ℕ) (p : Pair) → Ascend pairs → n < length pairs → slice_get pairs n ≡ Some p → AllByRecursion (λ (q : Pair). q.begin < p.begin) (take n pairs)
named_below [] n p ascend less at = absurd (omega (arith, less))
named_below (q ∷ pairs) zero p ascend less at = tt
named_below (q ∷ pairs) (suc n) p ascend less at = (first_below pairs n q p ascend (omega (arith, less)) at, named_below pairs n p (later_ascend q pairs ascend) (omega (arith, less)) at)

below_entries : (es : List (ℕ × Transaction)) (pairs : List Pair) (n : ℕ) → map open_of es ≡ map fresh pairs → AllByRecursion (λ (q : Pair). q.begin < n) pairs → AreBelow n es
below_entries [] pairs n same all = tt
below_entries (e ∷ es) [] n same all = absurd (omega (arith, ap length same))
below_entries (e ∷ es) (q ∷ pairs) n same all =
    let first = ap (λ (l : List Open). (get_or l 0 (fresh q)).txn) same in
    let low = all.0 in
    (omega (arith, first, low), below_entries es pairs n (ap (drop 1) same) all.1)

pub named_more : (pairs : List Pair) (place : ℕ) (old new : BTreeMap ℕ Transaction) (at : ℕ × ℕ) (added : Transaction) → Ascend pairs → place < length pairs → slice_get pairs place ≡ Some (record { begin = at.0; last = at.1 }) → added.last ≡ at.1 → added.updates.items ≡ [] →
    map open_of old.entries ≡ map fresh (take place pairs) → new.entries ≡ insert_entry nat_cmp old.entries at.0 added → map open_of new.entries ≡ map fresh (take (place + 1) pairs)
named_more pairs place old new at added ascend less is last empty so_far put =
    let p : Pair = record { begin = at.0; last = at.1 } in
    let e : ℕ × Transaction = (at.0, added) in
    ap (map open_of) (put ∙ insert_last at.0 added old.entries (below_entries old.entries (take place pairs) at.0 so_far (named_below pairs place p ascend less is)))
    ∙ map-append open_of old.entries (e ∷ [])
    ∙ ap (λ (l : List Open). l ++ open_of e ∷ []) so_far
    ∙ (λ i. map fresh (take place pairs) ++ record { txn = at.0; last = last i; updates = reverse (empty i) } ∷ [])
    ∙ sym (map-append fresh (take place pairs) (p ∷ []))
    ∙ ap (map fresh) (sym (take_more pairs place p less ∙ ap (λ (q : Pair). take place pairs ++ q ∷ []) (get_or_from_slice_get pairs place p p is)))
