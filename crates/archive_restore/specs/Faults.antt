-- The counts of faults once the work of a restore ends.
use Rattle.std.specs.Prelude.{◌≡◌, Result, Ok, Err}
use Rattle.site.specs.State.{State as Site}
use Rattle.site.specs.Faults.{Faults, faults_in, with_fault}
use Rattle.front_end.specs.Faults.{SameFaults, after_halt}
use Rattle.front_end.specs.declared.new_database.Unfit.{Unfit}
use Rattle.front_end.specs.declared.new_database.Unfit.TheVariants as unfit
use Rattle.archive_restore.specs.declared.fault.Fault.{Fault}
use Rattle.archive_restore.specs.declared.fault.Fault.TheVariants as fault

-- one failed read more of the device that is named, or none
abbrev pub after_unfit : Unfit → Faults → Faults
after_unfit unfit.Foreign f = f
after_unfit (unfit.Failed dev) f = with_fault dev f
after_unfit (unfit.NotBlank dev place) f = f

-- one failed call more of what is named, and no other
abbrev pub after_fault : Fault → Faults → Faults
after_fault (fault.Unfit unfit) f = after_unfit unfit f
after_fault (fault.Halt halt) f = after_halt halt f
after_fault (fault.Stream number) f = f
after_fault (fault.Short commits) f = f
after_fault fault.Full f = f

-- work that a first failed call ends
abbrev pub RestoreFaults : {T : Type 0} → Result T Fault → Site → Site → Type 0
RestoreFaults (Ok x) old new = SameFaults old new
RestoreFaults (Err f) old new = faults_in new ≡ after_fault f (faults_in old)
