-- What a restore tells, and its statuses.
use Rattle.std.specs.Prelude.{ℕ, List, ◌++◌, codes, decimal}
use Rattle.front_end.specs.New.{unfit_line, unfit_status}
use Rattle.front_end.specs.Texts as texts
use Rattle.archive_restore.specs.declared.fault.Fault.{Fault}
use Rattle.archive_restore.specs.declared.fault.Fault.TheVariants as fault

-- that all is restored
abbrev pub restored_line : ℕ → List ℕ
restored_line count = codes "restored " ++ decimal count ++ codes "\n"

-- why it isn't
abbrev pub fault_line : Fault → List ℕ
fault_line (fault.Unfit unfit) = unfit_line unfit
fault_line (fault.Halt halt) = texts.fault_line halt
fault_line (fault.Stream number) = codes "fault stream " ++ decimal number ++ codes "\n"
fault_line (fault.Short commits) = codes "fault short " ++ decimal commits ++ codes "\n"
fault_line fault.Full = codes "fault full\n"

abbrev pub fault_status : Fault → ℕ
fault_status (fault.Unfit unfit) = unfit_status unfit
fault_status (fault.Halt halt) = texts.status_of halt
fault_status (fault.Stream number) = 13
fault_status (fault.Short commits) = 14
fault_status fault.Full = 15
