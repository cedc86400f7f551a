-- What one walk over the kept blocks finds, record by record.
use Rattle.std.specs.Prelude.{ℕ, List}
use Rattle.log_records.specs.Log.{Entry}
use Rattle.log_records.specs.Sound.{before_block}
use Rattle.image_check.specs.declared.survey.Survey.{Survey}
use Rattle.log_judge.specs.Counting.{NumbersAre}
use Rattle.log_judge.specs.Unended.{AreLeft}

-- these are the transactions that records leave unfinished, those that the records before the redo block do, and the
-- numbers of the commits
pub record Surveys (redo : ℕ) (records : List Entry) (survey : Survey) : Type 0 where
  pub left : AreLeft records survey.left.left
  pub early : AreLeft (before_block redo records) survey.early.left
  pub numbers : NumbersAre redo records survey.numbers
