-- What is known of devices on the way to the verdict.
use Rattle.std.specs.Prelude.{ℕ, ◌+◌, ◌*◌, ◌^◌, ◌≤◌, ◌<◌, Option, Some, None, List, Result, IfOk, length}
use Rattle.site.specs.declared.outside.Stop.{Stop}
use Rattle.site.specs.declared.geometry.Geometry.{Geometry}
use Rattle.site.specs.State.{State, Image}
use Rattle.site.specs.Work.{OnlyReads}
use Rattle.log_records.specs.declared.log_record.LogRecord.{LogRecord}
use Rattle.image_form.specs.declared.formed.Found.{Found}
use Rattle.image_form.specs.declared.place.Place.{Place}
use Rattle.image_check.specs.declared.survey.Survey.{Survey}
use Rattle.image_check.specs.Surveying.{Surveys}
use Rattle.image_form.specs.Verdict.{Reading, Reads, Rule, HoldBefore}
use Rattle.image_form.specs.Counted.{ReadsAtMost, log_looks, page_looks}
use Rattle.image_form.specs.Formed.{IsThere}
use Rattle.image_check.specs.Judging.{reading_of, records_of, kept_blocks}

-- what was found is there, the contents are read as that, and the rules before one hold
pub record MeetsBefore (i : ℕ) (found : Found) (blocks : List (List LogRecord)) (site : State) : Type 0 where
  pub there : IsThere found site
  pub reads : Reads (reading_of found blocks) site.image
  pub rules : HoldBefore i (reading_of found blocks) site.image

-- a call that only reads, and what its answer says where the rules before one hold; whatever the site, by so many walks
-- over the kept blocks, and so many reads of flash and the disk
pub record Decides {T : Type 0} (i : ℕ) (found : Found) (walks pages : ℕ) (result : Result T Stop) (old new : State)
    (Says : List (List LogRecord) → T → Type 0) : Type 0 where
  pub says : IfOk result (λ x. (blocks : List (List LogRecord)) → MeetsBefore i found blocks old → Says blocks x)
  pub reads : OnlyReads result old new
  pub few : ReadsAtMost (walks * kept_blocks found) pages old new

-- a survey of the records of the kept blocks, of which there are few enough to count
pub record IsSurveyOf (found : Found) (blocks : List (List LogRecord)) (survey : Survey) : Type 0 where
  pub surveys : Surveys found.master.redo (records_of found blocks) survey
  pub few : length (records_of found blocks) < 2 ^ 62

-- the rules before a number hold; or this is the least one from the third on that fails, and a place
abbrev pub HoldOr : ℕ → Option (ℕ × Place) → Reading → Image → Type 0
HoldOr end None r image = HoldBefore end r image
HoldOr end (Some failing) r image = (3 ≤ failing.0) × HoldBefore failing.0 r image × (Rule failing.0 r image → ⊥)

-- What a check reads: what finds what stands there and judges the first rule does, six walks over the kept blocks, the
-- heads of the groups for each of the rules that ask for versions, each group's frames with their disk pages, the heads
-- that segments have, and each version four times.

abbrev pub log_checked : Geometry → ℕ
log_checked g = log_looks g + 6 * g.blocks

abbrev pub pages_checked : Geometry → ℕ
pages_checked g = page_looks g + (22 * g.groups + 4 * g.pages)
