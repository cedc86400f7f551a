-- The front of a list, one element longer.
use Rattle.policy_sim.proofs.Names.{◌≡◌, ℕ, zero, suc, ◌<◌, List, [], ◌∷◌, ◌++◌, length, get_or, take, arith, refl, ap}

pub take_more : {X : Type 0} (xs : List X) (i : ℕ) (d : X) → i < length xs → take (suc i) xs ≡ take i xs ++ get_or xs i d ∷ []
take_more [] i d less = absurd (omega (arith, less))
take_more (x ∷ xs) zero d less = refl
take_more (x ∷ xs) (suc i) d less = ap (λ l. x ∷ l) (take_more xs i d (omega (arith, less)))
