-- What `simulate` does with a site.
use Rattle.std.specs.Prelude.{◌≡◌, ◌⊎◌, ℕ, List, ◌++◌, codes, Result, Ok, Err, IsTrue, ⊤}
use Rattle.site.specs.State.{State}
use Rattle.site.specs.Calls.{Rose, SameReads}
use Rattle.site.specs.Faults.{Faults, faults_in, with_input_fault, with_output_fault}
use Rattle.site.specs.Moments.{EachMoment}
use Rattle.site.specs.Telling.{TellsPart}
use Rattle.trace_report.specs.declared.halt.Halt.{Halt}
use Rattle.trace_report.specs.declared.halt.Halt.TheVariants as halt
use Rattle.trace_report.specs.Traces.{Touch, IsTrace, IsFirstWrong}
use Rattle.trace_report.specs.Reports.{report, wrong_line}

-- The text of each status, for an input of these octets: the report where they are a trace, and else the number of the
-- first line that is wrong. Telling the report may fail, and so may taking the input; memory may be wanting.
abbrev pub IsAnswer : ℕ → ℕ → List ℕ → ℕ → List ℕ → Type 0
IsAnswer groups pool octets status text =
    (((status ≡ 0) ⊎ (status ≡ 6)) × (touches : List Touch) × IsTrace octets touches
    × (text ≡ report groups pool touches))
    ⊎ (((status ≡ 16) × (number : ℕ) × IsFirstWrong octets number × (text ≡ wrong_line number))
    ⊎ (((status ≡ 5) × (text ≡ codes "fault input\n")) ⊎ ((status ≡ 4) × (text ≡ codes "fault memory\n"))))

-- What `simulate` does with a flash of so many groups and a pool of so many pages.
pub record SimulateContract (groups pool : ℕ) (old new : State) (status : ℕ) : Type 0 where
  -- of an honest site: a crash at any moment leaves the devices as they were, and a front of the text told
  pub text : List ℕ
  pub answer : IsTrue old.honest → IsAnswer groups pool old.input.left status text
  pub any_moment : IsTrue old.honest → EachMoment old new (TellsPart text old)
  -- and in the end all of it, where no tell has failed, and with status 0 at any rate
  pub whole : IsTrue old.honest → ¬ (Rose old.output_faults new.output_faults) → new.told ≡ old.told ++ text
  pub done : IsTrue old.honest → status ≡ 0 → new.told ≡ old.told ++ text
  -- where a line is wrong its number is told, unless memory is wanting or taking the input fails before it is heard
  pub wrong : IsTrue old.honest → (number : ℕ) → IsFirstWrong old.input.left number
      → (status ≡ 16) ⊎ ((status ≡ 4) ⊎ (status ≡ 5))
  -- and a trace is reported, unless memory is wanting, or taking or telling fails
  pub trace : IsTrue old.honest → (touches : List Touch) → IsTrace old.input.left touches →
      (status ≡ 0) ⊎ ((status ≡ 4) ⊎ ((status ≡ 5) ⊎ (status ≡ 6)))
  -- of every site
  pub others : (status ≡ 0) ⊎ ((status ≡ 4) ⊎ ((status ≡ 5) ⊎ ((status ≡ 6) ⊎ (status ≡ 16))))
  pub input : status ≡ 5 → Rose old.input_faults new.input_faults
  pub output : status ≡ 6 → Rose old.output_faults new.output_faults
  pub reads : SameReads old new

-- why no report is told: the line that is told, and the status
abbrev pub halt_line : Halt → List ℕ
halt_line halt.Memory = codes "fault memory\n"
halt_line halt.Input = codes "fault input\n"
halt_line (halt.Trace number) = wrong_line number

abbrev pub halt_status : Halt → ℕ
halt_status halt.Memory = 4
halt_status halt.Input = 5
halt_status (halt.Trace number) = 16

-- and its cause
abbrev pub HasCause : Halt → State → State → Type 0
HasCause halt.Memory old new = ⊤
HasCause halt.Input old new = Rose old.input_faults new.input_faults
HasCause (halt.Trace number) old new = IsTrue old.honest → IsFirstWrong old.input.left number

-- the counts of faults after it: one failed take more, or as they were
abbrev pub after_halt : Halt → Faults → Faults
after_halt halt.Memory f = f
after_halt halt.Input f = with_input_fault f
after_halt (halt.Trace number) f = f

-- hearing, which a first failed take ends
abbrev pub HearFaults : {T : Type 0} → Result T Halt → State → State → Type 0
HearFaults (Ok x) old new = faults_in new ≡ faults_in old
HearFaults (Err h) old new = faults_in new ≡ after_halt h (faults_in old)

-- The first failed call decides the status: with 5 one take has failed, with 6 the telling of the report, and with any
-- other status nothing; behind it the telling of a fault line may fail.
pub record FirstFails (status : ℕ) (old new : State) : Type 0 where
  pub after : Faults
  pub input : status ≡ 5 → after ≡ with_input_fault (faults_in old)
  pub output : status ≡ 6 → after ≡ with_output_fault (faults_in old)
  pub none : (status ≡ 0) ⊎ ((status ≡ 4) ⊎ (status ≡ 16)) → after ≡ faults_in old
  pub line : (faults_in new ≡ after) ⊎ (faults_in new ≡ with_output_fault after)
