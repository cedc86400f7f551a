-- What a run that opens says of the records that stand there.
use Rattle.std.specs.Prelude.{List, [], Option, Result, OnOk}
use Rattle.site.specs.declared.outside.Stop.{Stop}
use Rattle.site.specs.declared.geometry.Geometry.{Geometry}
use Rattle.site.specs.State.{Image}
use Rattle.log_records.specs.declared.log_record.LogRecord.{LogRecord}
use Rattle.log_judge.specs.Rules.{IsJudged}
use Rattle.log_store.specs.Representation.{HasBlocks}
use Rattle.checkpoint.specs.declared.master.Master.{Master}
use Rattle.image_meaning.specs.Meaning.{AreOctetsSoundUnder, kept_by, logical_image_under}
use Rattle.redo_undo.specs.Redoing.{Opening}

-- An image whose octets are sound under its newest master, with these blocks in its log from the oldest kept one on,
-- whatever their records say.
pub record IsLegible (newest : Option Master) (g : Geometry) (image : Image)
    (blocks : List (List LogRecord)) : Type 0 where
  pub octets : AreOctetsSoundUnder newest g image
  pub held : HasBlocks g (kept_by newest) blocks image

-- where a call that opens such an image answers Ok, the records of the image keep the rules that are judged
abbrev pub JudgesRecords : {T : Type 0} → Result T Stop → Image → Type 0
JudgesRecords result image = (g : Geometry) (newest : Option Master) (blocks : List (List LogRecord))
    → IsLegible newest g image blocks → OnOk result (IsJudged (logical_image_under newest g image blocks))

-- what a restart reads of such an image
abbrev pub read_of : Geometry → Image → Option Master → List (List LogRecord) → Opening
read_of g image newest blocks = record {
  sizes = g;
  image = image;
  newest = newest;
  blocks = blocks;
  table = [];
  commits = 0;
}
