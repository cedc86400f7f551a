-- The first failed call decides the status of a restore.
use Rattle.std.proofs.Common.{◌≡◌, ◌≤◌, ℕ, inr, arith, Result, Err}
use Rattle.std.specs.Prelude.{⊤}
use Rattle.site.specs.State.{State as Site}
use Rattle.site.specs.Faults.{faults_in, TellFaults}
use Rattle.site.specs.declared.outside.Failed.{Failed}
use Rattle.site.specs.declared.outside.Stop.TheVariants.{Device, Memory, Worn, Foreign}
use Rattle.site.proofs.Working.{tell_faults_cases}
use Rattle.front_end.specs.Faults.{FirstDecides}
use Rattle.front_end.specs.New.{TestFaults}
use Rattle.front_end.specs.declared.halt.Halt.TheVariants as halt
use Rattle.front_end.specs.declared.new_database.Unfit.{Unfit}
use Rattle.front_end.specs.declared.new_database.Unfit.TheVariants as unfit
use Rattle.front_end.proofs.Firsts.{first_halted, first_unfit}
use Rattle.archive_restore.specs.declared.fault.Fault.{Fault}
use Rattle.archive_restore.specs.declared.fault.Fault.TheVariants as fault
use Rattle.archive_restore.specs.Faults.{after_fault, after_unfit}
use Rattle.archive_restore.specs.Texts.{fault_status}

pub test_faults : (T : Type 0) (u : Unfit) (old new : Site) → TestFaults {T = T} (Err u) old new → faults_in new ≡ after_unfit u (faults_in old)
test_faults T unfit.Foreign old new same = same
test_faults T (unfit.Failed dev) old new same = same
test_faults T (unfit.NotBlank dev place) old new same = same

unfit_faults : (T : Type 0) (u : Unfit) (old new : Site) → faults_in new ≡ after_unfit u (faults_in old) → TestFaults {T = T} (Err u) old new
unfit_faults T unfit.Foreign old new same = same
unfit_faults T (unfit.Failed dev) old new same = same
unfit_faults T (unfit.NotBlank dev place) old new same = same

-- no call failed, and the line is told
first_other : {U : Type 0} (status : ℕ) (old mid new : Site) (told : Result U Failed) → 13 ≤ status → faults_in mid ≡ faults_in old → TellFaults told mid new → FirstDecides status old new
first_other status old mid new told is same tells = record {
  after = faults_in mid;
  first = inr (inr (inr (λ e. omega (arith, is, e), λ e. omega (arith, is, e), λ e. omega (arith, is, e), same)));
  line = tell_faults_cases told mid new tells;
}

pub first_stopped : {U : Type 0} (f : Fault) (status : ℕ) (old mid new : Site) (told : Result U Failed) → status ≡ fault_status f → faults_in mid ≡ after_fault f (faults_in old) → TellFaults told mid new → FirstDecides status old new
first_stopped (fault.Unfit u) status old mid new told is same tells = first_unfit ⊤ u status old mid new told is (unfit_faults ⊤ u old mid same) tells
first_stopped (fault.Halt h) status old mid new told is same tells = first_halted h status old mid new told is same tells
first_stopped (fault.Stream number) status old mid new told is same tells = first_other status old mid new told (omega (arith, is)) same tells
first_stopped (fault.Short commits) status old mid new told is same tells = first_other status old mid new told (omega (arith, is)) same tells
first_stopped fault.Full status old mid new told is same tells = first_other status old mid new told (omega (arith, is)) same tells

-- no fault has a status below 3
pub status_from : (f : Fault) (status : ℕ) → status ≡ fault_status f → 3 ≤ status
status_from (fault.Unfit unfit.Foreign) status is = omega (arith, is)
status_from (fault.Unfit (unfit.Failed dev)) status is = omega (arith, is)
status_from (fault.Unfit (unfit.NotBlank dev place)) status is = omega (arith, is)
status_from (fault.Halt (halt.Stop (Device dev))) status is = omega (arith, is)
status_from (fault.Halt (halt.Stop Memory)) status is = omega (arith, is)
status_from (fault.Halt (halt.Stop (Worn dev))) status is = omega (arith, is)
status_from (fault.Halt (halt.Stop Foreign)) status is = omega (arith, is)
status_from (fault.Halt halt.Input) status is = omega (arith, is)
status_from (fault.Halt halt.Output) status is = omega (arith, is)
status_from (fault.Halt halt.Limit) status is = omega (arith, is)
status_from (fault.Stream number) status is = omega (arith, is)
status_from (fault.Short commits) status is = omega (arith, is)
status_from fault.Full status is = omega (arith, is)
