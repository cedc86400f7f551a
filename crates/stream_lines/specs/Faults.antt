-- The counts of faults once lines were heard.
use Rattle.std.specs.Prelude.{◌≡◌, Result, Ok, Err}
use Rattle.site.specs.State.{State}
use Rattle.site.specs.Faults.{Faults, faults_in, with_input_fault}
use Rattle.stream_lines.specs.declared.source.Fault.{Fault}
use Rattle.stream_lines.specs.declared.source.Fault.TheVariants as fault

-- one failed take more, or none
abbrev pub after_fault : Fault → Faults → Faults
after_fault fault.Input f = with_input_fault f
after_fault fault.Limit f = f

-- hearing that a first failed take ends
abbrev pub HearFaults : {T : Type 0} → Result T Fault → State → State → Type 0
HearFaults (Ok x) old new = faults_in new ≡ faults_in old
HearFaults (Err f) old new = faults_in new ≡ after_fault f (faults_in old)
