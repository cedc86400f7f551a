-- The first failed call decides the status.
use Rattle.std.proofs.Common.{◌≡◌, ◌≢◌, inl, inr, refl, arith, ℕ}
use Rattle.std.specs.Prelude.{Result, Err}
use Rattle.site.specs.State.{State}
use Rattle.site.specs.Faults.{Faults, faults_in, with_output_fault, after_work, TellFaults}
use Rattle.site.specs.declared.outside.Failed.{Failed}
use Rattle.site.specs.declared.outside.Stop.{Stop}
use Rattle.site.specs.declared.outside.Stop.TheVariants.{Device, Memory, Worn, Foreign}
use Rattle.front_end.specs.declared.halt.Halt.{Halt}
use Rattle.front_end.specs.declared.halt.Halt.TheVariants as halt
use Rattle.front_end.specs.declared.new_database.Unfit.{Unfit}
use Rattle.front_end.specs.declared.new_database.Unfit.TheVariants as unfit
use Rattle.front_end.specs.Texts.{status_of}
use Rattle.front_end.specs.Faults.{AfterFirst, FirstDecides, SameFaults, after_halt}
use Rattle.front_end.specs.New.{TestFaults, unfit_status}
use Rattle.site.proofs.Working.{tell_faults_cases}

-- no call failed
pub first_none : (old new : State) → SameFaults old new → FirstDecides 0 old new
first_none old new same = record { after = faults_in old; first = inr (inr (inr (λ e. omega (arith, e), λ e. omega (arith, e), λ e. omega (arith, e), refl))); line = inl same }

-- nor where the status is another one that speaks of no failed call
pub first_done : (status : ℕ) (old new : State) → (status ≢ 3) × (status ≢ 5) × (status ≢ 6) → SameFaults old new → FirstDecides status old new
first_done status old new ne same = record { after = faults_in old; first = inr (inr (inr (ne.0, ne.1, ne.2, refl))); line = inl same }

halt_first : (h : Halt) (status : ℕ) (before after : Faults) → status ≡ status_of h → after ≡ after_halt h before → AfterFirst status before after
halt_first (halt.Stop (Device dev)) status before after is same = inl (is, dev, same)
halt_first (halt.Stop Memory) status before after is same = inr (inr (inr (λ e. omega (arith, is, e), λ e. omega (arith, is, e), λ e. omega (arith, is, e), same)))
halt_first (halt.Stop (Worn dev)) status before after is same = inr (inr (inr (λ e. omega (arith, is, e), λ e. omega (arith, is, e), λ e. omega (arith, is, e), same)))
halt_first (halt.Stop Foreign) status before after is same = inr (inr (inr (λ e. omega (arith, is, e), λ e. omega (arith, is, e), λ e. omega (arith, is, e), same)))
halt_first halt.Input status before after is same = inr (inl (is, same))
halt_first halt.Output status before after is same = inr (inr (inl (is, same)))
halt_first halt.Limit status before after is same = inr (inr (inr (λ e. omega (arith, is, e), λ e. omega (arith, is, e), λ e. omega (arith, is, e), same)))

-- work that a device ends, or want of memory, halts so
pub work_halts : (T : Type 0) (stop : Stop) (f : Faults) → after_work {T = T} (Err stop) f ≡ after_halt (halt.Stop stop) f
work_halts T (Device dev) f = refl
work_halts T Memory f = refl
work_halts T (Worn dev) f = refl
work_halts T Foreign f = refl

-- a run halts, and its line is told
pub first_halted : {T : Type 0} (h : Halt) (status : ℕ) (old mid new : State) (result : Result T Failed) → status ≡ status_of h → faults_in mid ≡ after_halt h (faults_in old) → TellFaults result mid new → FirstDecides status old new
first_halted h status old mid new result is same tells = record { after = faults_in mid; first = halt_first h status (faults_in old) (faults_in mid) is same; line = tell_faults_cases result mid new tells }

-- nothing is done but that a line is told
pub first_line : {T : Type 0} (status : ℕ) (old new : State) (result : Result T Failed) → (status ≢ 3) × (status ≢ 5) × (status ≢ 6) → TellFaults result old new → FirstDecides status old new
first_line status old new result ne tells = record { after = faults_in old; first = inr (inr (inr (ne.0, ne.1, ne.2, refl))); line = tell_faults_cases result old new tells }

-- a reply can't be told
pub first_untold : (old new : State) → faults_in new ≡ with_output_fault (faults_in old) → FirstDecides 6 old new
first_untold old new same = record { after = faults_in new; first = inr (inr (inl (refl, same))); line = inl refl }

-- devices aren't fit
unfit_first : (T : Type 0) (u : Unfit) (status : ℕ) (old mid : State) → status ≡ unfit_status u → TestFaults {T = T} (Err u) old mid → AfterFirst status (faults_in old) (faults_in mid)
unfit_first T unfit.Foreign status old mid is same = inr (inr (inr (λ e. omega (arith, is, e), λ e. omega (arith, is, e), λ e. omega (arith, is, e), same)))
unfit_first T (unfit.Failed dev) status old mid is same = inl (is, dev, same)
unfit_first T (unfit.NotBlank dev place) status old mid is same = inr (inr (inr (λ e. omega (arith, is, e), λ e. omega (arith, is, e), λ e. omega (arith, is, e), same)))

pub first_unfit : (T : Type 0) {U : Type 0} (u : Unfit) (status : ℕ) (old mid new : State) (result : Result U Failed) → status ≡ unfit_status u → TestFaults {T = T} (Err u) old mid → TellFaults result mid new → FirstDecides status old new
first_unfit T u status old mid new result is tests tells = record { after = faults_in mid; first = unfit_first T u status old mid is tests; line = tell_faults_cases result mid new tells }
