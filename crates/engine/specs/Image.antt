-- What the devices say to a run that opens on them.
use Rattle.std.specs.Prelude.{◌≡◌, ℕ, ◌-◌, List, Option}
use Rattle.site.specs.declared.geometry.Geometry.{Geometry}
use Rattle.site.specs.State.{Image}
use Rattle.record_model.specs.State.{Content, State, opened}
use Rattle.log_records.specs.declared.log_record.LogRecord.{LogRecord}
use Rattle.log_records.specs.Log.{Entry, log_from}
use Rattle.log_records.specs.Sound.{Means}
use Rattle.checkpoint.specs.declared.master.Master.{Master}
use Rattle.image_meaning.specs.Meaning.{kept_by, logical_image_under}
use Rattle.image_meaning.specs.Meaning as meaning

-- an image is sound under its newest master, with these blocks in its log from the oldest kept one on
abbrev pub IsSound : Option Master → Geometry → Image → List (List LogRecord) → Type 0
IsSound = meaning.IsSoundUnder

-- under some newest master it is sound, and stands for this table and this number of commits
abbrev pub Stands : Geometry → Image → List Content → ℕ → Type 0
Stands = meaning.StandsFor

-- the records of these blocks, from the oldest kept one on
abbrev pub log_under : Option Master → List (List LogRecord) → List Entry
log_under newest blocks = log_from (kept_by newest) blocks

-- a run over this image opens with this state: its table and its count, no session, and nothing made yet
pub record Opens (g : Geometry) (image : Image) (s : State) : Type 0 where
  pub newest : Option Master
  pub blocks : List (List LogRecord)
  pub sound : IsSound newest g image blocks
  pub means : Means (logical_image_under newest g image blocks) s.table s.commits
  pub state : s ≡ opened s.table s.commits 0 (g.blocks - 1)
