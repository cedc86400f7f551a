-- The map of the longest lengths, as a session writes and as a write is taken back.
use Rattle.std.proofs.Common.{◌≡◌, ℕ, ◌<◌, ◌==◌, nat_eq, ⊎_elim, max, cond, List, [], ◌∷◌, ◌++◌, length, slice_set, Option, Some, unwrap_or, IsSome, arith, refl, sym, ap, subst, ◌∙◌}
use Rattle.std.specs.List.{reduce}
use Rattle.std.specs.Map.{lookup}
use Rattle.std.proofs.lemmas.Bool.{cases_eq, eq-eqb, ne_eqb}
use Rattle.std.proofs.lemmas.List.{append-nil, get_or-set_same, length-set}
use Rattle.indexmap.specs.IndexMap.{IndexMap, get}
use Rattle.footprints.specs.declared.footprint.Footprint.{Footprint}
use Rattle.footprints.specs.Longest.{of_session, lengths_on, longest, IsOnlyOf}
use Rattle.footprints.specs.Stacks.{AreStacks}
use Rattle.footprints.proofs.Greatest.{two_more}
use Rattle.footprints.proofs.Lengths.{lengths_more, lengths_here, lengths_there, lengths_of, lengths_stay, only_stays, only_of_changed}

-- One footprint more on its record.
more_here : (own : List Footprint) (f : Footprint) → lengths_on f.number (own ++ f ∷ []) ≡ lengths_on f.number own ++ f.stood ∷ f.written ∷ []
more_here own f = lengths_more f.number own f ∙ ap (λ l. lengths_on f.number own ++ l) (lengths_here f.number f (eq-eqb f.number f.number refl))

-- and on another one
more_there : (n : ℕ) (own : List Footprint) (f : Footprint) → (f.number ≡ n → ⊥) → lengths_on n (own ++ f ∷ []) ≡ lengths_on n own
more_there n own f apart =
    lengths_more n own f ∙ ap (λ l. lengths_on n own ++ l) (lengths_there n f (ne_eqb f.number n apart)) ∙ append-nil (lengths_on n own)

longest_here : (own : List Footprint) (f : Footprint) → reduce max (lengths_on f.number (own ++ f ∷ []))
    ≡ Some (max (max f.stood f.written) (unwrap_or (reduce max (lengths_on f.number own)) 0))
longest_here own f = ap (reduce max) (more_here own f) ∙ two_more (lengths_on f.number own) f.stood f.written

-- A record that has a footprint of one session has none of the others.
pub only_of_last : {S : Type 0} (map : IndexMap ℕ ℕ S) (stacks : List (List Footprint)) → AreStacks map stacks → (s : ℕ) (front : List Footprint) (f : Footprint)
    → of_session stacks s ≡ front ++ f ∷ [] → IsOnlyOf stacks s f.number
only_of_last map stacks are s front f last =
    let owned = are.owned f.number in
    ⊎_elim (λ (same : s ≡ owned.0). subst (λ o. IsOnlyOf stacks o f.number) (sym same) owned.1)
    (λ (apart : s ≡ owned.0 → ⊥). absurd (some_there (lengths_on f.number front) f.stood f.written (sym (ap (lengths_on f.number) last ∙ more_here front f) ∙ owned.1 s apart))) (cases_eq s owned.0)
  where
    some_there : (l : List ℕ) (a b : ℕ) → l ++ a ∷ b ∷ [] ≡ [] → ⊥
    some_there [] a b is = cc
    some_there (x ∷ l) a b is = cc

module _ {S : Type 0} (map new : IndexMap ℕ ℕ S) (stacks : List (List Footprint)) (are : AreStacks map stacks) (s : ℕ) (less : s < 8) (f : Footprint) where
  there : s < length stacks
  there = omega (arith, less, are.eight)

  -- what the map has for a record of one session
  pub own_longest : IsOnlyOf stacks s f.number → get nat_eq map f.number ≡ reduce max (lengths_on f.number (of_session stacks s))
  own_longest only = are.longest f.number ∙ ap (reduce max) (lengths_of f.number stacks s only)

  changed_longest : (own : List Footprint) → IsOnlyOf stacks s f.number → longest (slice_set stacks s own) f.number ≡ reduce max (lengths_on f.number own)
  changed_longest own only =
      ap (reduce max) (lengths_of f.number (slice_set stacks s own) s (only_of_changed f.number stacks s own only)
      ∙ ap (lengths_on f.number) (get_or-set_same stacks s own [] there))

  -- The stacks hold after a change of one that concerns one record.
  module _ (own : List Footprint) (length_now : Option ℕ)
      (only : IsOnlyOf stacks s f.number)
      (others : (n : ℕ) → (f.number ≡ n → ⊥) → lengths_on n own ≡ lengths_on n (of_session stacks s))
      (now : reduce max (lengths_on f.number own) ≡ length_now)
      (gets : (n : ℕ) → get nat_eq new n ≡ cond (f.number == n) length_now (get nat_eq map n)) where
    owned_then : (n : ℕ) → (owner : ℕ) × IsOnlyOf (slice_set stacks s own) owner n
    owned_then n =
        ⊎_elim (λ (same : f.number ≡ n). (s, subst (IsOnlyOf (slice_set stacks s own) s) same (only_of_changed f.number stacks s own only)))
        (λ (apart : f.number ≡ n → ⊥). ((are.owned n).0, only_stays n stacks s own (are.owned n).0 (λ none. others n apart ∙ none) (are.owned n).1)) (cases_eq f.number n)

    longest_then : (n : ℕ) → get nat_eq new n ≡ longest (slice_set stacks s own) n
    longest_then n =
        ⊎_elim (λ (same : f.number ≡ n). subst (λ k. get nat_eq new k ≡ longest (slice_set stacks s own) k) same
        (gets f.number ∙ ap (λ b. cond b length_now (get nat_eq map f.number)) (eq-eqb f.number f.number refl) ∙ sym now ∙ sym (changed_longest own only)))
        (λ (apart : f.number ≡ n → ⊥). gets n ∙ ap (λ b. cond b length_now (get nat_eq map n)) (ne_eqb f.number n apart) ∙ are.longest n
        ∙ ap (reduce max) (sym (lengths_stay n stacks s own (others n apart)))) (cases_eq f.number n)

    changed : AreStacks new (slice_set stacks s own)
    changed = record { eight = length-set stacks s own ∙ are.eight; owned = owned_then; longest = longest_then }

  pub written : (length_now : ℕ) → IsOnlyOf stacks s f.number
      → length_now ≡ max (max f.stood f.written) (unwrap_or (get nat_eq map f.number) 0)
      → ((n : ℕ) → get nat_eq new n ≡ cond (f.number == n) (Some length_now) (get nat_eq map n))
      → AreStacks new (slice_set stacks s (of_session stacks s ++ f ∷ []))
  written length_now only is gets =
      changed (of_session stacks s ++ f ∷ []) (Some length_now) only (λ n apart. more_there n (of_session stacks s) f apart)
      (longest_here (of_session stacks s) f ∙ ap Some (ap (λ o. max (max f.stood f.written) (unwrap_or o 0)) (sym (own_longest only)) ∙ sym is)) gets

  module _ (front : List Footprint) (last : of_session stacks s ≡ front ++ f ∷ []) where
    pub had : IsSome (get nat_eq map f.number)
    had = subst IsSome (sym (own_longest (only_of_last map stacks are s front f last) ∙ ap (λ l. reduce max (lengths_on f.number l)) last ∙ longest_here front f)) refl

    pub taken_back : (before : Option ℕ) → before ≡ reduce max (lengths_on f.number front)
        → ((n : ℕ) → get nat_eq new n ≡ cond (f.number == n) before (get nat_eq map n))
        → AreStacks new (slice_set stacks s front)
    taken_back before is gets =
        changed front before (only_of_last map stacks are s front f last)
        (λ n apart. sym (ap (lengths_on n) last ∙ more_there n front f apart)) (sym is) gets

-- A map with the same entries says the same.
pub same_entries : {S : Type 0} (map new : IndexMap ℕ ℕ S) (stacks : List (List Footprint)) → AreStacks map stacks → new.entries ≡ map.entries → AreStacks new stacks
same_entries map new stacks are same =
    record { eight = are.eight; owned = are.owned; longest = λ n. ap (lookup (nat_eq n)) same ∙ are.longest n }

-- What is said of the value that the stacks show is said of them.
pub alone : (stacks standing : List (List Footprint)) → stacks ≡ standing → (s n : ℕ) → IsOnlyOf standing s n → IsOnlyOf stacks s n
alone stacks standing is s n only = subst (λ l. IsOnlyOf l s n) (sym is) only
