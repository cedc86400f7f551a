-- What a commit rests on, and what its record leaves in the tail.
use Rattle.std.specs.Prelude.{◌≡◌, ℕ, ◌+◌, ◌≤◌, ◌<◌, List, [], ◌∷◌, ◌++◌, Option}
use Rattle.site.specs.declared.geometry.Geometry.{Geometry}
use Rattle.site.specs.State.{State}
use Rattle.log_records.specs.declared.log_record.LogRecord.{LogRecord}
use Rattle.log_records.specs.Log.{Entry, entries_of}
use Rattle.log_records.specs.Unfinished.{owed}
use Rattle.log_records.specs.Sound.{IsOpen, IsLoserChain}
use Rattle.log_laws.specs.Tail.{next_lsn}
use Rattle.log_store.specs.declared.store.LogStore.{LogStore}
use Rattle.log_store.specs.Representation.{end_of}
use Rattle.slotted_page.specs.Layout.{lsn_of}
use Rattle.page_store.specs.declared.store.PageStore.{PageStore}
use Rattle.page_store.specs.Representation.{current}
use Rattle.page_store.specs.Ahead.{IsAhead}
use Rattle.page_store.specs.Leaves.{AreReady}
use Rattle.checkpoint.specs.declared.master.Master.{Master}
use Rattle.image_meaning.specs.Meaning.{logical_image_under, master_of, kept_by}
use Rattle.image_meaning.specs.Beside.{AreRingsSoundUnder}
use Rattle.redo_laws.specs.Running.{History, RunsOn}
use Rattle.redo_laws.specs.Holding.{ShowRecords, blocks_to}

-- a transaction may be committed, as the next one
pub record MayCommit (newest : Option Master) (records : List Entry) (txn number commits : ℕ) : Type 0 where
  pub begun : IsOpen (master_of newest) records txn
  pub chain : IsLoserChain txn (entries_of txn records)
  pub number_is : number ≡ commits + 1

-- Log and pages hold together under a newest master with these records, and the log's tail ends with one more, whatever
-- that is.
pub record EndsWith (g : Geometry) (log : LogStore) (pages : PageStore) (site : State) (newest : Option Master)
    (records : List Entry) (history : History) (last : Entry) : Type 0 where
  pub kept : log.kept ≡ kept_by newest
  pub blocks : List (List LogRecord)
  pub front : List LogRecord
  pub ready : AreReady pages log (record {
    first = kept_by newest;
    blocks = blocks;
    tail = front ++ last.rec ∷ [];
  }) site
  pub rings : AreRingsSoundUnder newest g site.image
  pub runs_on : RunsOn (logical_image_under newest g site.image blocks) front records history
  pub next : last.lsn ≡ next_lsn (logical_image_under newest g site.image blocks) front
  pub ahead : IsAhead log pages site.image
  pub shows : ShowRecords g pages site.image records
  pub below : (page : ℕ) → page < g.pages → lsn_of (current pages site.image page) < end_of log
  pub room : blocks_to log + owed records ≤ log.kept + g.blocks
