use Rattle.std.proofs.Common.{◌≡◌, ℕ, zero, suc, ◌%◌, ◌==◌, Bool, true, false, cond, List, [], ◌∷◌, take, filter, slice_set, refl, sym, subst}
use Rattle.std.specs.List.{flat_map}
use Rattle.footprints.specs.declared.footprint.Footprint.{Footprint}
use Rattle.footprints.specs.Longest.{of_session, lengths_on, IsOnlyOf}
use Rattle.footprints.proofs.Lengths.{only_stays}
use Rattle.parts_tests.proofs.footprints_tests.holds.Goals as goal

-- none of a record's lengths are in a front, if none are in the whole
none_in_front : (n k : ℕ) (own : List Footprint) → lengths_on n own ≡ [] → lengths_on n (take k own) ≡ []
none_in_front n zero own none = refl
none_in_front n (suc k) [] none = refl
none_in_front n (suc k) (f ∷ own) none = by (f.number == n) none (none_in_front n k own)
  where
    by : (b : Bool) → flat_map (λ (g : Footprint). g.stood ∷ g.written ∷ []) (cond b (f ∷ filter (λ (g : Footprint). g.number == n) own) (filter (λ (g : Footprint). g.number == n) own)) ≡ []
        → (lengths_on n own ≡ [] → lengths_on n (take k own) ≡ [])
        → flat_map (λ (g : Footprint). g.stood ∷ g.written ∷ []) (cond b (f ∷ filter (λ (g : Footprint). g.number == n) (take k own)) (filter (λ (g : Footprint). g.number == n) (take k own))) ≡ []
    by true is rest = cc
    by false is rest = rest is

dropped : (standing : List (List Footprint)) (s k : ℕ) → ((number : ℕ) → IsOnlyOf standing (number % 8) number)
    → (number : ℕ) → IsOnlyOf (slice_set standing s (take k (of_session standing s))) (number % 8) number
dropped standing s k apart number = only_stays number standing s _ (number % 8) (none_in_front number k (of_session standing s)) (apart number)

pub returns-in-TakeBack : goal.returns-in-TakeBack
returns-in-TakeBack c = λ number. subst (λ l. IsOnlyOf l (number % 8) number) (sym c.take_back.ensures) (dropped c.args.footprints.now _ _ c.requires number)
