-- What a run or a load that goes well says of the records that stood there before it.
use Rattle.std.specs.Prelude.{◌≡◌, ◌≢◌, ℕ, List, Option, Result, OnOk}
use Rattle.site.specs.declared.geometry.Geometry.{Geometry}
use Rattle.site.specs.State.{Image, State}
use Rattle.log_records.specs.declared.log_record.LogRecord.{LogRecord}
use Rattle.log_judge.specs.Rules.{IsJudged}
use Rattle.checkpoint.specs.declared.master.Master.{Master}
use Rattle.image_meaning.specs.Meaning.{logical_image_under}
use Rattle.engine.specs.Judged.{IsLegible}
use Rattle.front_end.specs.declared.halt.Halt.{Halt}

-- where the octets of an image are of the form that its newest master says, its records keep the rules that are judged
abbrev pub KeepsRules : Image → Type 0
KeepsRules image = (g : Geometry) (newest : Option Master) (blocks : List (List LogRecord))
    → IsLegible newest g image blocks → IsJudged (logical_image_under newest g image blocks)

-- A run ends with 0, or takes input, only over an image whose records keep the rules.
pub record RunsJudged (status : ℕ) (old new : State) : Type 0 where
  pub done : status ≡ 0 → KeepsRules old.image
  pub taken : new.input.left ≢ old.input.left → KeepsRules old.image

-- the same of a run before its fault line
pub record WorkJudged {T : Type 0} (result : Result T Halt) (old new : State) : Type 0 where
  pub done : OnOk result (KeepsRules old.image)
  pub taken : new.input.left ≢ old.input.left → KeepsRules old.image
