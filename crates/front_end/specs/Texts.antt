-- The lines of faults, and the statuses.
use Rattle.std.specs.Prelude.{◌≡◌, ◌⊎◌, ℕ, List, [], ◌++◌, codes}
use Rattle.site.specs.declared.outside.Dev.{Dev}
use Rattle.site.specs.declared.outside.Dev.TheVariants.{Log, Flash, Disk}
use Rattle.site.specs.declared.outside.Stop.TheVariants.{Device, Memory, Worn, Foreign}
use Rattle.front_end.specs.declared.halt.Halt.{Halt}
use Rattle.front_end.specs.declared.halt.Halt.TheVariants as halt

abbrev pub dev_name : Dev → List ℕ
dev_name Log = codes "log"
dev_name Flash = codes "flash"
dev_name Disk = codes "disk"

-- the line of a fault; where the output fails nothing more is told
abbrev pub fault_line : Halt → List ℕ
fault_line (halt.Stop (Device dev)) = codes "fault " ++ dev_name dev ++ codes "\n"
fault_line (halt.Stop Memory) = codes "fault memory\n"
fault_line (halt.Stop (Worn dev)) = codes "fault worn " ++ dev_name dev ++ codes "\n"
fault_line (halt.Stop Foreign) = codes "fault foreign\n"
fault_line halt.Input = codes "fault input\n"
fault_line halt.Output = []
fault_line halt.Limit = codes "fault limit\n"

-- and its status
abbrev pub status_of : Halt → ℕ
status_of (halt.Stop (Device dev)) = 3
status_of (halt.Stop Memory) = 4
status_of halt.Input = 5
status_of halt.Output = 6
status_of halt.Limit = 7
status_of (halt.Stop (Worn dev)) = 8
status_of (halt.Stop Foreign) = 9

-- a status, and the fault line that may be told with it
abbrev pub IsLineOf : ℕ → List ℕ → Type 0
IsLineOf status fault =
    ((status ≡ 0) × (fault ≡ [])) ⊎ ((halt : Halt) × (status ≡ status_of halt) × (fault ≡ fault_line halt))
