-- Nets as maps keep them.
use Rattle.log_replay.proofs.Names.{◌≡◌, ℕ, ◌-◌, ◌==◌, Bool, true, false, cond, List, [], ◌∷◌, ◌++◌, length, take, drop, refl, sym, ap, ◌∙◌, arith, Less, Equal, Greater, eqb-true, append-nil, length-take-le, reverse-append, option_to_list, nat_lt, reverse, Option, Some, None, put_in, Content, Write}
use Rattle.std.specs.Ordering.{nat_cmp, match_ordering}
use Rattle.std.specs.BTreeMap.{insert_entry}

pub insert_is_put : (net : List Write) (n : ℕ) (content : Content) → insert_entry nat_cmp net n content ≡ put_in (n, content) net
insert_is_put [] n content = refl
insert_is_put (w ∷ net) n content = by (nat_lt n w.0) (n == w.0) refl (insert_is_put net n content)
  where
    by : (less same : Bool) → (n == w.0) ≡ same → insert_entry nat_cmp net n content ≡ put_in (n, content) net →
        match_ordering (cond less Less (cond same Equal Greater)) ((n, content) ∷ w ∷ net) ((w.0, content) ∷ net) (w ∷ insert_entry nat_cmp net n content)
        ≡ cond less ((n, content) ∷ w ∷ net) (cond same ((n, content) ∷ net) (w ∷ put_in (n, content) net))
    by true same is rest = refl
    by false true is rest = ap (λ k. (k, content) ∷ net) (sym (eqb-true n w.0 is))
    by false false is rest = ap (λ l. w ∷ l) rest

-- a list that has no last one is empty
emptied : {X : Type 0} (old : List X) → old ≡ take (length old - 1) old → old ≡ []
emptied [] is = refl
emptied (x ∷ old) is = let less = length-take-le (length (x ∷ old) - 1) (x ∷ old) (omega arith) in let same = ap length is in absurd (omega (arith, less, same))

-- without its last one a list has one less at its other end
pub popped : {X : Type 0} (new old : List X) (last : Option X) → old ≡ new ++ option_to_list last → new ≡ take (length old - 1) old → reverse new ≡ drop 1 (reverse old)
popped new old (Some x) is rest = sym (ap (λ l. drop 1 (reverse l)) is ∙ ap (drop 1) (reverse-append new (x ∷ [])))
popped {X} new old None is rest =
    let same : old ≡ new = is ∙ append-nil new in
    let empty : old ≡ [] = emptied old (same ∙ rest) in
    ap reverse (sym same ∙ empty) ∙ sym (ap (λ (l : List X). drop 1 (reverse l)) empty)
