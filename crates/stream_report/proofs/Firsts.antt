-- The first failed call decides the status.
use Rattle.std.proofs.Common.{◌≡◌, ◌⊎◌, inl, inr, ℕ, refl, ap, ◌∙◌, arith}
use Rattle.std.specs.Prelude.{Result}
use Rattle.site.specs.State.{State}
use Rattle.site.specs.Faults.{faults_in, with_output_fault, TellFaults}
use Rattle.site.specs.declared.outside.Failed.{Failed}
use Rattle.stream_report.specs.declared.halt.Halt.{Halt}
use Rattle.stream_report.specs.declared.halt.Halt.TheVariants as halt
use Rattle.stream_report.specs.Contract.{FirstFails, after_halt, halt_status}
use Rattle.site.proofs.Working.{tell_faults_cases}

-- the count is told
pub first_told : (old mid new : State) → faults_in mid ≡ faults_in old → faults_in new ≡ faults_in mid → FirstFails 0 old new
first_told old mid new same told = record {
  after = faults_in old;
  input = λ e. absurd (omega (arith, e));
  output = λ e. absurd (omega (arith, e));
  none = λ other. refl;
  line = inl (told ∙ same);
}

abbrev AnswersOtherwise : ℕ → Type 0
AnswersOtherwise status = (status ≡ 0) ⊎ ((status ≡ 4) ⊎ ((status ≡ 7) ⊎ (status ≡ 13)))

otherwise : (status : ℕ) → (status ≡ 5) ⊎ (status ≡ 6) → AnswersOtherwise status → ⊥
otherwise status x1 x2 = grind arith

-- or can't be
pub first_untold : (old mid new : State) → faults_in mid ≡ faults_in old → faults_in new ≡ with_output_fault (faults_in mid) → FirstFails 6 old new
first_untold old mid new same told = record {
  after = with_output_fault (faults_in old);
  input = λ e. absurd (omega (arith, e));
  output = λ e. refl;
  none = λ other. absurd (otherwise 6 (inr refl) other);
  line = inl (told ∙ ap with_output_fault same);
}

-- the line of a halt is told
pub first_halted : {T : Type 0} (h : Halt) (old mid new : State) (result : Result T Failed) → faults_in mid ≡ after_halt h (faults_in old) → TellFaults result mid new → FirstFails (halt_status h) old new
first_halted halt.Memory old mid new result same tells = record {
  after = faults_in mid;
  input = λ e. absurd (omega (arith, e));
  output = λ e. absurd (omega (arith, e));
  none = λ other. same;
  line = tell_faults_cases _ mid new tells;
}
first_halted halt.Input old mid new result same tells = record {
  after = faults_in mid;
  input = λ e. same;
  output = λ e. absurd (omega (arith, e));
  none = λ other. absurd (otherwise _ (inl refl) other);
  line = tell_faults_cases _ mid new tells;
}
first_halted halt.Limit old mid new result same tells = record {
  after = faults_in mid;
  input = λ e. absurd (omega (arith, e));
  output = λ e. absurd (omega (arith, e));
  none = λ other. same;
  line = tell_faults_cases _ mid new tells;
}
first_halted (halt.Stream number) old mid new result same tells = record {
  after = faults_in mid;
  input = λ e. absurd (omega (arith, e));
  output = λ e. absurd (omega (arith, e));
  none = λ other. same;
  line = tell_faults_cases _ mid new tells;
}
