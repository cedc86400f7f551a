-- Log, pages and master units of a run: over every site, and on an honest one as a list of records.
use Rattle.std.specs.Prelude.{◌≡◌, ℕ, ◌+◌, ◌/◌, ◌%◌, ◌^◌, ◌≤◌, ◌<◌, List, length, Option, Some, IsTrue}
use Rattle.site.specs.State.{State}
use Rattle.site.specs.declared.geometry.Geometry.{Geometry}
use Rattle.sealed_ring.specs.Ready.{IsUsable, Finds}
use Rattle.image_changes.specs.Rings.{master_shape}
use Rattle.record_model.specs.State.{Content}
use Rattle.log_records.specs.declared.log_record.LogRecord.{LogRecord}
use Rattle.log_records.specs.declared.log_record.LogRecord.TheVariants.{Update}
use Rattle.log_records.specs.Log.{Entry, shown}
use Rattle.log_records.specs.Sound.{AreOrderly, from_block}
use Rattle.slotted_page.specs.Layout.{lsn_of}
use Rattle.buffer_pool.specs.Frames.{front_of}
use Rattle.log_store.specs.Representation.{end_of}
use Rattle.page_store.specs.Representation.{current}
use Rattle.checkpoint.specs.declared.master.Master.{Master}
use Rattle.checkpoint.specs.declared.pairs.Pair.{Pair}
use Rattle.image_meaning.specs.Meaning.{versions_on}
use Rattle.redo_laws.specs.Checkpointing.{KeepUnfinished}
use Rattle.redo_laws.specs.Holding as both
use Rattle.redo_laws.specs.Holding.{blocks_to}
use Rattle.redo_laws.specs.Running.{History, settled}
use Rattle.redo_undo.specs.declared.store.TransactionStore.{TransactionStore}

-- how large the devices are
abbrev pub sizes_of : TransactionStore → Geometry
sizes_of store = store.pages.flash.geometry

-- of every site: log and pages may go on
pub record MayWork (store : TransactionStore) (site : State) : Type 0 where
  pub both : both.Invariant store.log store.pages site
  -- each kept block has a record that counts
  pub blocks : blocks_to store.log ≤ store.log.kept + store.made
  pub bounded : store.made ≤ 2 ^ 40
  -- the ring of master units lies on the log's device
  pub masters : IsUsable store.masters site
  pub shape : store.masters.shape ≡ master_shape

-- and it may log one more record
pub record MayLog (store : TransactionStore) (site : State) : Type 0 where
  pub going : MayWork store site
  pub room : blocks_to store.log + 1 < store.log.kept + (sizes_of store).blocks
  pub few : store.made < 2 ^ 40

-- Of an honest site: under this newest master log and pages hold these records together, what is sealed of them stands
-- for the table after some commits of this history, and they are in order. The ring of master units is the one that
-- stands there.
pub record Holds (store : TransactionStore) (site : State) (newest : Option Master) (records : List Entry)
    (history : History) : Type 0 where
  pub both : both.Represents store.log store.pages site newest records history
  pub orderly : AreOrderly records
  pub masters : Finds store.masters site

-- what is sealed stands for this table after so many commits, and no commit waits for its seal
abbrev pub Represents : TransactionStore → State → Option Master → List Entry → List Content → ℕ → Type 0
Represents store site newest records table commits = Holds store site newest records (settled table commits)

-- of an honest site: no page has an LSN that a next record may get
pub record HasNext (store : TransactionStore) (site : State) : Type 0 where
  pub honest : IsTrue site.honest
  pub below : (page : ℕ) → page < (sizes_of store).pages
      → lsn_of (current store.pages site.image page) < end_of store.log

-- A checkpoint was made that names these transactions: under its master log and pages hold the records from its oldest
-- kept block on, and all records of unfinished transactions are among them.
pub record HasCheckpoint (store : TransactionStore) (site : State) (records : List Entry) (table : List Content)
    (commits : ℕ)
    (active : List Pair) : Type 0 where
  pub master : Master
  pub named : master.active ≡ active
  pub holds : Represents store site (Some master) (from_block master.kept records) table commits
  pub keeps : KeepUnfinished records (from_block master.kept records)

-- one more record may be appended
abbrev pub MayGrow : TransactionStore → State → Option Master → List Entry → Entry → Type 0
MayGrow store site newest records e = both.MayGrow store.log store.pages site.image newest records e

-- what was written to a record last, by whomever
abbrev pub shown_in : TransactionStore → State → List Entry → ℕ → Content
shown_in store site records number = shown records (versions_on store.pages.flash.geometry site.image) number

-- the page of a record is in front of the pool
pub record IsInFront (store : TransactionStore) (number : ℕ) : Type 0 where
  pub there : 0 < length store.pages.pool.frames
  pub page : (front_of store.pages.pool.frames).page ≡ number / 32

-- an Update of a record
abbrev pub update_by : ℕ → ℕ → ℕ → Content → Content → LogRecord
update_by txn prev number before after = Update txn prev (number / 32) (number % 32) before after
