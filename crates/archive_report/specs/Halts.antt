-- Why no answer is told, or not all of it.
use Rattle.std.specs.Prelude.{◌≡◌, ℕ, List, [], codes, Result, Ok, Err}
use Rattle.site.specs.declared.outside.Dev.TheVariants.{Log}
use Rattle.site.specs.State.{State}
use Rattle.site.specs.Calls.{Preserves}
use Rattle.site.specs.Faults.{Faults, faults_in, with_fault, with_output_fault}
use Rattle.archive_report.specs.declared.halt.Halt.{Halt}
use Rattle.archive_report.specs.declared.halt.Halt.TheVariants as halt

-- the line that is told, and the status
abbrev pub halt_line : Halt → List ℕ
halt_line halt.Log = codes "fault log\n"
halt_line halt.Output = []
halt_line halt.Foreign = codes "fault foreign\n"

abbrev pub halt_status : Halt → ℕ
halt_status halt.Log = 3
halt_status halt.Output = 6
halt_status halt.Foreign = 9

-- one failed call more of what the halt names, and no other
abbrev pub after_halt : Halt → Faults → Faults
after_halt halt.Log f = with_fault Log f
after_halt halt.Output f = with_output_fault f
after_halt halt.Foreign f = f

abbrev pub after : {T : Type 0} → Result T Halt → Faults → Faults
after (Ok x) f = f
after (Err h) f = after_halt h f

-- of every site: lengths and honesty stay, and the first failed call is the last one
pub record Goes {T : Type 0} (result : Result T Halt) (old new : State) : Type 0 where
  pub preserves : Preserves old new
  pub faults : faults_in new ≡ after result (faults_in old)
