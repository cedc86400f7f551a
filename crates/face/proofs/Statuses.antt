-- The statuses of halts.
use Rattle.face.proofs.Names.{◌≡◌, ◌≢◌, ◌⊎◌, inl, inr, refl, arith, status_of, Halt, Dev, Worn}
use Rattle.front_end.specs.declared.halt.Halt.TheVariants as halt

pub output_or_not : (h : Halt) → (h ≡ halt.Output) ⊎ (h ≢ halt.Output)
output_or_not (halt.Stop stop) = inr (λ e. cc)
output_or_not halt.Input = inr (λ e. cc)
output_or_not halt.Output = inl refl
output_or_not halt.Limit = inr (λ e. cc)

pub not_zero : (h : Halt) → status_of h ≢ 0
not_zero x0 e = grind arith

-- with 8 a device is worn
pub worn_by : (h : Halt) → status_of h ≡ 8 → (dev : Dev) × (h ≡ halt.Stop (Worn dev))
worn_by x0 e = grind arith

-- with 5 taking was what failed
pub of_five : (h : Halt) → status_of h ≡ 5 → h ≡ halt.Input
of_five x0 e = grind arith

-- and with 7 it went past the limit
pub of_seven : (h : Halt) → status_of h ≡ 7 → h ≡ halt.Limit
of_seven x0 e = grind arith
