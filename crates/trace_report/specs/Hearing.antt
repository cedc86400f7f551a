-- How the lines of a trace are heard.
use Rattle.std.specs.Prelude.{◌≡◌, ◌-◌, ℕ, ◌≤◌, true, List, [], ◌∷◌, ◌++◌, length, take, drop, Option, Some, None}
use Rattle.std.specs.Prelude.{IsTrue, Result, OnOk, OnErr}
use Rattle.site.specs.declared.outside.Failed.{Failed}
use Rattle.site.specs.State.{State}
use Rattle.site.specs.Calls.{Preserves, Rose, SameReads}
use Rattle.site.specs.Faults.{TakeFaults}
use Rattle.shell_text.specs.Runs.{lines_of}
use Rattle.trace_report.specs.declared.trace.Trace.{Trace}
use Rattle.trace_report.specs.declared.trace.Heard.{Heard}
use Rattle.trace_report.specs.declared.trace.Heard.TheVariants as heard
use Rattle.trace_report.specs.Traces.{Touch, IsTouch}

-- of every site
pub record IsUsable (trace : Trace) : Type 0 where
  pub order : trace.from ≤ trace.to
  pub inside : trace.to ≤ 4096
  pub long : length trace.buffer ≡ 4096

-- of an honest site: where a take has answered that the input ended, nothing is left
abbrev pub HasEnded : Trace → State → Type 0
HasEnded trace site = trace.ended ≡ true → site.input.left ≡ []

-- the octets that were taken and aren't cut into lines yet, and with them those left to take
abbrev pub pending : Trace → List ℕ
pending trace = take (trace.to - trace.from) (drop trace.from trace.buffer)

abbrev pub to_hear : Trace → State → List ℕ
to_hear trace site = pending trace ++ site.input.left

-- once a take has answered that the input ended none is made any more
abbrev pub TakesNoMore : Trace → Trace → State → State → Type 0
TakesNoMore old new before after = old.ended ≡ true → (new.ended ≡ true) × (after ≡ before)

-- nothing but the octets left to hear changed
pub record HearsOnly (old new : State) : Type 0 where
  pub image : new.image ≡ old.image
  pub loose : new.loose ≡ old.loose
  pub told : new.told ≡ old.told
  pub past : new.past ≡ old.past

-- the first octet was heard, or there is none
abbrev pub HearsOctet : Option ℕ → List ℕ → List ℕ → Type 0
HearsOctet (Some x) before after = before ≡ x ∷ after
HearsOctet None before after = (before ≡ []) × (after ≡ [])

-- a line is no touch
abbrev pub IsWrong : List ℕ → Type 0
IsWrong line = (t : Touch) → IsTouch line t → ⊥

-- The first line was heard, which is a touch; or a front of it, and it is none; or there is no line.
abbrev pub Hears : Heard → List ℕ → List ℕ → Type 0
Hears (heard.Touch page change) before after =
    (line : List ℕ) × (lines_of true before ≡ line ∷ lines_of true after) × IsTouch line (page, change)
Hears heard.Wrong before after = (line : List ℕ) × (behind : List (List ℕ)) × (lines_of true before ≡ line ∷ behind)
    × IsWrong line
Hears heard.End before after = before ≡ []

-- what a whole line says
abbrev pub IsSaid : Heard → List ℕ → Type 0
IsSaid (heard.Touch page change) line = IsTouch line (page, change)
IsSaid heard.Wrong line = IsWrong line
IsSaid heard.End line = ⊥

-- what holds of each call that takes octets, whatever it answers
pub record Takes {T : Type 0} (result : Result T Failed) (old new : Trace) (before after : State) : Type 0 where
  pub usable : IsUsable new
  pub ended : IsTrue before.honest → HasEnded old before → OnOk result (HasEnded new after)
  pub same : IsTrue before.honest → HearsOnly before after
  pub preserves : Preserves before after
  pub reads : SameReads before after
  pub cause : OnErr result (Rose before.input_faults after.input_faults)
  pub faults : TakeFaults result before after
  pub no_more : TakesNoMore old new before after
