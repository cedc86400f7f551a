-- The lengths on a record, as one session's footprints change.
use Rattle.std.proofs.Common.{◌≡◌, ℕ, zero, suc, ◌+◌, ◌==◌, ⊎_elim, true, false, cond, List, [], ◌∷◌, ◌++◌, slice_set, arith, refl, sym, ap, subst, ◌∙◌}
use Rattle.std.specs.List.{flat_map, sum_by, range_with_len}
use Rattle.std.proofs.lemmas.List.Sums.{sum_by_push}
use Rattle.std_lemmas.proofs.Lists.{range_push}
use Rattle.std.proofs.lemmas.List.{append-nil, get_or-set_other}
use Rattle.std.proofs.lemmas.Bool.{cases_eq}
use Rattle.std.proofs.lemmas.List.Elements.{filter-append}
use Rattle.std.proofs.lemmas.Grind.{flat_map-append}
use Rattle.footprints.specs.declared.footprint.Footprint.{Footprint}
use Rattle.footprints.specs.Longest.{of_session, lengths_on, lengths, IsOnlyOf}

pub lengths_more : (n : ℕ) (footprints : List Footprint) (f : Footprint)
    → lengths_on n (footprints ++ f ∷ []) ≡ lengths_on n footprints ++ lengths_on n (f ∷ [])
lengths_more n footprints f = simp (filter-append, flat_map-append)

pub lengths_here : (n : ℕ) (f : Footprint) → (f.number == n) ≡ true → lengths_on n (f ∷ []) ≡ f.stood ∷ f.written ∷ []
lengths_here n f here = ap (λ b. flat_map (λ (g : Footprint). g.stood ∷ g.written ∷ []) (cond b (f ∷ []) [])) here

pub lengths_there : (n : ℕ) (f : Footprint) → (f.number == n) ≡ false → lengths_on n (f ∷ []) ≡ []
lengths_there n f there = ap (λ b. flat_map (λ (g : Footprint). g.stood ∷ g.written ∷ []) (cond b (f ∷ []) [])) there

-- Where no session has any, there are none.
none_of : (n : ℕ) (standing : List (List Footprint)) → ((i : ℕ) → lengths_on n (of_session standing i) ≡ []) → lengths standing n ≡ []
none_of n [] none = refl
none_of n (own ∷ standing) none = ap (λ l. l ++ lengths standing n) (none 0) ∙ none_of n standing (λ i. none (suc i))

-- They are those of the one session that has any.
pub lengths_of : (n : ℕ) (standing : List (List Footprint)) (owner : ℕ) → IsOnlyOf standing owner n
    → lengths standing n ≡ lengths_on n (of_session standing owner)
lengths_of n [] owner only = refl
lengths_of n (own ∷ standing) zero only =
    ap (λ l. lengths_on n own ++ l) (none_of n standing (λ i. only (suc i) (λ same. omega (arith, same)))) ∙ append-nil (lengths_on n own)
lengths_of n (own ∷ standing) (suc owner) only =
    ap (λ l. l ++ lengths standing n) (only 0 (λ same. omega (arith, same)))
    ∙ lengths_of n standing owner (λ i other. only (suc i) (λ same. other (omega (arith, same))))

-- A session's footprints change, and its lengths on the record stay.
pub lengths_stay : (n : ℕ) (standing : List (List Footprint)) (s : ℕ) (own : List Footprint)
    → lengths_on n own ≡ lengths_on n (of_session standing s) → lengths (slice_set standing s own) n ≡ lengths standing n
lengths_stay n [] s own same = refl
lengths_stay n (first ∷ standing) zero own same = ap (λ l. l ++ lengths standing n) same
lengths_stay n (first ∷ standing) (suc s) own same = ap (λ l. lengths_on n first ++ l) (lengths_stay n standing s own same)

-- The only session that has any on the record is the same one, where the changed session has none that weren't there.
pub only_stays : (n : ℕ) (standing : List (List Footprint)) (s : ℕ) (own : List Footprint) (owner : ℕ)
    → (lengths_on n (of_session standing s) ≡ [] → lengths_on n own ≡ []) → IsOnlyOf standing owner n → IsOnlyOf (slice_set standing s own) owner n
only_stays n standing s own owner none only other apart =
    ⊎_elim (λ (same : other ≡ s). changed (subst (λ k. lengths_on n (of_session standing k) ≡ []) same (only other apart)) same)
    (λ (away : other ≡ s → ⊥). ap (lengths_on n) (get_or-set_other standing s other own [] away) ∙ only other apart) (cases_eq other s)
  where
    at : (l : List (List Footprint)) (k : ℕ) → lengths_on n (of_session l k) ≡ [] → lengths_on n own ≡ [] → lengths_on n (of_session (slice_set l k own) k) ≡ []
    at [] k was is = refl
    at (first ∷ l) zero was is = is
    at (first ∷ l) (suc k) was is = at l k was is

    changed : lengths_on n (of_session standing s) ≡ [] → other ≡ s → lengths_on n (of_session (slice_set standing s own) other) ≡ []
    changed was same = subst (λ k. lengths_on n (of_session (slice_set standing s own) k) ≡ []) (sym same) (at standing s was (none was))

-- Where the changed session is the only one that has any, it is so still.
pub only_of_changed : (n : ℕ) (standing : List (List Footprint)) (s : ℕ) (own : List Footprint) → IsOnlyOf standing s n → IsOnlyOf (slice_set standing s own) s n
only_of_changed n standing s own only other apart =
    ap (lengths_on n) (get_or-set_other standing s other own [] apart) ∙ only other apart

-- A sum over numbers from 0 on, with one more.
pub sum_more : (f : ℕ → ℕ) (n : ℕ) → sum_by f (range_with_len 0 (n + 1)) ≡ sum_by f (range_with_len 0 n) + f n
sum_more f n = ap (sum_by f) (sym (range_push 0 n)) ∙ sum_by_push f (range_with_len 0 n) (0 + n) ∙ ap (λ k. sum_by f (range_with_len 0 n) + f k) here
  where
    here : 0 + n ≡ n
    here = omega arith
