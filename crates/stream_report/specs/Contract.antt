-- What `verify` does with a site.
use Rattle.std.specs.Prelude.{◌≡◌, ◌⊎◌, ℕ, ◌+◌, List, ◌++◌, length, codes, Result, Ok, Err, IsTrue, ⊤}
use Rattle.site.specs.State.{State}
use Rattle.site.specs.Calls.{Rose, SameReads}
use Rattle.site.specs.Faults.{Faults, faults_in, with_input_fault, with_output_fault}
use Rattle.site.specs.Moments.{EachMoment}
use Rattle.site.specs.Telling.{TellsPart}
use Rattle.stream_lines.specs.Lines.{AsksFor}
use Rattle.stream_lines.specs.declared.source.Fault.{Fault}
use Rattle.stream_lines.specs.declared.source.Fault.TheVariants as fault
use Rattle.stream_report.specs.declared.halt.Halt.{Halt}
use Rattle.stream_report.specs.declared.halt.Halt.TheVariants as halt
use Rattle.stream_report.specs.Streams.{AreAccepted, IsArchiveOf, IsFirstBad, bad_line, most, verified_line}

-- The text of each status, for an input of these octets, of which these are left: the count where they are an archive,
-- and else the number of the first line that isn't accepted, or that one octet too many was taken. To tell it may
-- fail, and so may taking the input; memory may be wanting.
abbrev pub IsAnswer : ℕ → List ℕ → List ℕ → ℕ → List ℕ → Type 0
IsAnswer pages octets left status text =
    (((status ≡ 0) ⊎ (status ≡ 6)) × (count : ℕ) × IsArchiveOf pages octets count × (text ≡ verified_line count))
    ⊎ (((status ≡ 13) × (number : ℕ) × IsFirstBad pages octets number × (text ≡ bad_line number))
    ⊎ (((status ≡ 7) × (length octets ≡ most + 1 + length left) × (text ≡ codes "fault limit\n"))
    ⊎ (((status ≡ 5) × (text ≡ codes "fault input\n")) ⊎ ((status ≡ 4) × (text ≡ codes "fault memory\n")))))

-- What `verify` does for a database of so many pages.
pub record VerifyContract (pages : ℕ) (old new : State) (status : ℕ) : Type 0 where
  -- of an honest site: a crash at any moment leaves the devices as they were, and a front of the text told
  pub text : List ℕ
  pub answer : IsTrue old.honest → IsAnswer pages old.input.left new.input.left status text
  pub any_moment : IsTrue old.honest → EachMoment old new (TellsPart text old)
  -- and in the end all of it, where no tell has failed, and with status 0 at any rate
  pub whole : IsTrue old.honest → ¬ (Rose old.output_faults new.output_faults) → new.told ≡ old.told ++ text
  pub done : IsTrue old.honest → status ≡ 0 → new.told ≡ old.told ++ text
  -- where a line isn't accepted its number is told, unless memory is wanting, or taking fails or is too long before
  pub bad : IsTrue old.honest → (number : ℕ) → IsFirstBad pages old.input.left number
      → (status ≡ 13) ⊎ ((status ≡ 4) ⊎ ((status ≡ 5) ⊎ (status ≡ 7)))
  -- and an archive is told, unless memory is wanting, or taking or telling fails
  pub archive : IsTrue old.honest → (count : ℕ) → IsArchiveOf pages old.input.left count
      → (status ≡ 0) ⊎ ((status ≡ 4) ⊎ ((status ≡ 5) ⊎ (status ≡ 6)))
  -- of every site
  pub others : (status ≡ 0) ⊎ ((status ≡ 4) ⊎ ((status ≡ 5) ⊎ ((status ≡ 6) ⊎ ((status ≡ 7) ⊎ (status ≡ 13)))))
  pub input : status ≡ 5 → Rose old.input_faults new.input_faults
  pub output : status ≡ 6 → Rose old.output_faults new.output_faults
  pub reads : IsTrue old.honest → SameReads old new
  -- input is asked for only where all lines that were heard whole are accepted, and nothing is told yet
  pub asks : IsTrue old.honest → AsksFor (AreAccepted pages) old new

-- why no count is told: the line that is told, and the status
abbrev pub halt_line : Halt → List ℕ
halt_line halt.Memory = codes "fault memory\n"
halt_line halt.Input = codes "fault input\n"
halt_line halt.Limit = codes "fault limit\n"
halt_line (halt.Stream number) = bad_line number

abbrev pub halt_status : Halt → ℕ
halt_status halt.Memory = 4
halt_status halt.Input = 5
halt_status halt.Limit = 7
halt_status (halt.Stream number) = 13

-- what a fault of the input is
abbrev pub halt_of : Fault → Halt
halt_of fault.Input = halt.Input
halt_of fault.Limit = halt.Limit

-- and its cause
abbrev pub HasCause : ℕ → Halt → State → State → Type 0
HasCause pages halt.Memory old new = ⊤
HasCause pages halt.Input old new = Rose old.input_faults new.input_faults
HasCause pages halt.Limit old new = IsTrue old.honest → length old.input.left ≡ most + 1 + length new.input.left
HasCause pages (halt.Stream number) old new = IsTrue old.honest → IsFirstBad pages old.input.left number

-- the counts of faults after it: one failed take more, or as they were
abbrev pub after_halt : Halt → Faults → Faults
after_halt halt.Memory f = f
after_halt halt.Input f = with_input_fault f
after_halt halt.Limit f = f
after_halt (halt.Stream number) f = f

-- hearing, which a first failed take ends
abbrev pub HearFaults : {T : Type 0} → Result T Halt → State → State → Type 0
HearFaults (Ok x) old new = faults_in new ≡ faults_in old
HearFaults (Err h) old new = faults_in new ≡ after_halt h (faults_in old)

-- The first failed call decides the status: with 5 one take has failed, with 6 the telling of the count, and with any
-- other status nothing; behind it the telling of a fault line may fail.
pub record FirstFails (status : ℕ) (old new : State) : Type 0 where
  pub after : Faults
  pub input : status ≡ 5 → after ≡ with_input_fault (faults_in old)
  pub output : status ≡ 6 → after ≡ with_output_fault (faults_in old)
  pub none : (status ≡ 0) ⊎ ((status ≡ 4) ⊎ ((status ≡ 7) ⊎ (status ≡ 13))) → after ≡ faults_in old
  pub line : (faults_in new ≡ after) ⊎ (faults_in new ≡ with_output_fault after)
