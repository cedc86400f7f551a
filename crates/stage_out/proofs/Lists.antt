-- Short lists of pages.
use Rattle.std.proofs.Common.{◌≢◌, ℕ, zero, suc, [], ◌∷◌, arith}
use Rattle.std.specs.List.{All, AllPairs}

pub two_differ : (a b : ℕ) → a ≢ b → AllPairs (λ x y. x ≢ y) (a ∷ b ∷ [])
two_differ a b ne zero (suc zero) d less lt = ne
two_differ a b ne zero (suc (suc j)) d less lt = absurd (omega (arith, lt))
two_differ a b ne (suc i) (suc (suc j)) d less lt = absurd (omega (arith, lt))
two_differ a b ne _ _ d less lt = absurd (omega (arith, less))

pub two_all : (P : ℕ → Type 0) (a b : ℕ) → P a → P b → All P (a ∷ b ∷ [])
two_all P a b p q zero d lt = p
two_all P a b p q (suc zero) d lt = q
two_all P a b p q (suc (suc k)) d lt = absurd (omega (arith, lt))
