-- Which calls have failed, and that the first of them decides.
use Rattle.std.specs.Prelude.{◌≡◌, ◌≢◌, ◌⊎◌, ℕ, Result, Ok, Err}
use Rattle.site.specs.declared.outside.Dev.{Dev}
use Rattle.site.specs.declared.outside.Stop.TheVariants.{Device, Memory, Worn, Foreign}
use Rattle.site.specs.State.{State, faults_of}
use Rattle.site.specs.Calls.{Rose}
use Rattle.site.specs.Faults.{Faults, faults_in, with_fault, with_input_fault, with_output_fault}
use Rattle.front_end.specs.declared.halt.Halt.{Halt}
use Rattle.front_end.specs.declared.halt.Halt.TheVariants as halt

-- no call of the site failed: all counts of faults are as they were
abbrev pub SameFaults : State → State → Type 0
SameFaults old new = faults_in new ≡ faults_in old

-- one failed call more of what the halt names, and no other
abbrev pub after_halt : Halt → Faults → Faults
after_halt (halt.Stop (Device dev)) f = with_fault dev f
after_halt (halt.Stop Memory) f = f
after_halt (halt.Stop (Worn dev)) f = f
after_halt (halt.Stop Foreign) f = f
after_halt halt.Input f = with_input_fault f
after_halt halt.Output f = with_output_fault f
after_halt halt.Limit f = f

-- work that a first failed call ends
abbrev pub RunFaults : {T : Type 0} → Result T Halt → State → State → Type 0
RunFaults (Ok x) old new = SameFaults old new
RunFaults (Err h) old new = faults_in new ≡ after_halt h (faults_in old)

-- The counts of faults once the status is fixed. The first failed call fixes it: with 3 one call of a device has
-- failed, with 5 a take, with 6 a tell; with any other status none has.
abbrev pub AfterFirst : ℕ → Faults → Faults → Type 0
AfterFirst status before after =
    ((status ≡ 3) × (dev : Dev) × (after ≡ with_fault dev before))
    ⊎ (((status ≡ 5) × (after ≡ with_input_fault before))
    ⊎ (((status ≡ 6) × (after ≡ with_output_fault before))
    ⊎ ((status ≢ 3) × (status ≢ 5) × (status ≢ 6) × (after ≡ before))))

-- the first event decides: behind it nothing is called but the telling of the fault line, which may fail
pub record FirstDecides (status : ℕ) (old new : State) : Type 0 where
  pub after : Faults
  pub first : AfterFirst status (faults_in old) after
  pub line : (faults_in new ≡ after) ⊎ (faults_in new ≡ with_output_fault after)

-- no count of faults rose
pub record NoFaultRose (old new : State) : Type 0 where
  pub devices : (dev : Dev) → ¬ (Rose (faults_of dev old) (faults_of dev new))
  pub input : ¬ (Rose old.input_faults new.input_faults)
  pub output : ¬ (Rose old.output_faults new.output_faults)
