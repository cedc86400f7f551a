-- What judges of a log and the calls below them say, however they end.
use Rattle.std.specs.Prelude.{ℕ, ◌+◌, ◌-◌, ◌*◌, ◌≤◌, IfOk, List, Result}
use Rattle.site.specs.declared.outside.Stop.{Stop}
use Rattle.site.specs.State.{State}
use Rattle.site.specs.Work.{OnlyReads}
use Rattle.log_records.specs.declared.log_record.LogRecord.{LogRecord}
use Rattle.log_records.specs.Log.{Entry, log_from}
use Rattle.log_store.specs.Representation.{Finds, HasBlocks}
use Rattle.image_form.specs.declared.formed.Found.{Found}
use Rattle.image_form.specs.Counted.{ReadsAtMost}
use Rattle.image_form.specs.Formed.{MayBeRead}
use Rattle.image_form.specs.Verdict.{Reading}

-- over every site: besides, the kept blocks can all be live, and redo begins no later than the next block
pub record MayBeJudged (found : Found) (site : State) : Type 0 where
  pub read : MayBeRead found site
  pub live : found.log.ring.hi ≤ found.master.kept + (found.log.geometry.blocks - 1)
  pub redo : found.master.redo ≤ found.log.ring.hi

-- with these records of the blocks from the oldest kept one on
abbrev pub reading_of : Found → List (List LogRecord) → Reading
reading_of found blocks = record { g = found.log.geometry; master = found.master; blocks = blocks }

-- and their records one after the other
abbrev pub records_of : Found → List (List LogRecord) → List Entry
records_of found blocks = log_from found.master.kept blocks

-- of an honest site: the log is the one that stands there, and these are the blocks from the oldest kept one on
pub record Sees (found : Found) (blocks : List (List LogRecord)) (site : State) : Type 0 where
  pub log : Finds found.log site
  pub has : HasBlocks found.log.geometry found.master.kept blocks site.image

-- how many blocks the log has from the oldest kept one on
abbrev pub kept_blocks : Found → ℕ
kept_blocks found = found.log.ring.hi - found.master.kept

-- A call that only reads, and what its answer says of the blocks that stand there; whatever the site, by so many walks
-- over the kept blocks at most, each of which reads each of them once, and so many reads of flash and the disk.
pub record JudgesBy {T : Type 0} (found : Found) (walks pages : ℕ) (result : Result T Stop) (old new : State)
    (Says : List (List LogRecord) → T → Type 0) : Type 0 where
  pub says : IfOk result (λ x. (blocks : List (List LogRecord)) → Sees found blocks old → Says blocks x)
  pub reads : OnlyReads result old new
  pub few : ReadsAtMost (walks * kept_blocks found) pages old new
