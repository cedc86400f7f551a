-- The first failed call of a simulation decides its status.
use Rattle.std.proofs.Common.{◌≡◌, ◌⊎◌, inl, inr, arith, ℕ}
use Rattle.site.specs.State.{State}
use Rattle.site.specs.Faults.{faults_in}
use Rattle.trace_report.specs.Contract.{FirstFails}
use Rattle.front_end.specs.Faults.{AfterFirst, FirstDecides}

-- a simulation
pub first_simulated : (status : ℕ) (old new : State) → FirstFails status old new → (status ≡ 0) ⊎ ((status ≡ 4) ⊎ ((status ≡ 5) ⊎ ((status ≡ 6) ⊎ (status ≡ 16)))) → FirstDecides status old new
first_simulated status old new fails others = record { after = fails.after; first = by others; line = fails.line }
  where
    by : (status ≡ 0) ⊎ ((status ≡ 4) ⊎ ((status ≡ 5) ⊎ ((status ≡ 6) ⊎ (status ≡ 16)))) → AfterFirst status (faults_in old) fails.after
    by (inl is) = inr (inr (inr (λ e. omega (arith, is, e), λ e. omega (arith, is, e), λ e. omega (arith, is, e), fails.none (inl is))))
    by (inr (inl is)) = inr (inr (inr (λ e. omega (arith, is, e), λ e. omega (arith, is, e), λ e. omega (arith, is, e), fails.none (inr (inl is)))))
    by (inr (inr (inl is))) = inr (inl (is, fails.input is))
    by (inr (inr (inr (inl is)))) = inr (inr (inl (is, fails.output is)))
    by (inr (inr (inr (inr is)))) = inr (inr (inr (λ e. omega (arith, is, e), λ e. omega (arith, is, e), λ e. omega (arith, is, e), fails.none (inr (inr is)))))
