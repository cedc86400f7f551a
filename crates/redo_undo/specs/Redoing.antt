-- What analysis and redo of a restart begin with, and how far they are.
use Rattle.std.specs.Prelude.{Result, OnOk, ◌++◌, ◌≡◌, ◌⊎◌, ℕ, ◌≤◌, ◌<◌, List, [], length, filter_map, Option, filter}
use Rattle.site.specs.declared.geometry.Geometry.{Geometry}
use Rattle.site.specs.declared.outside.Stop.{Stop}
use Rattle.redo_laws.specs.MachineSteps.{StepsMachine}
use Rattle.redo_undo.specs.Mirroring.{PerformsAtRest}
use Rattle.redo_laws.specs.Calls.{Keeps}
use Rattle.site.specs.State.{State, Image, Snapshot}
use Rattle.record_model.specs.State.{Content}
use Rattle.record_model.specs.Touches.{CacheOp}
use Rattle.log_records.specs.declared.log_record.LogRecord.{LogRecord}
use Rattle.log_records.specs.Log.{Entry, version_at}
use Rattle.log_records.specs.Restart.{redo_touch}
use Rattle.log_records.specs.Sound.{LogicalImage, Means, last_lsn, from_block}
use Rattle.log_records.specs.Sound as lists
use Rattle.slotted_page.specs.Layout.{lsn_of}
use Rattle.log_store.specs.declared.store.LogStore.{LogStore}
use Rattle.page_store.specs.declared.store.PageStore.{PageStore}
use Rattle.page_store.specs.Representation.{current}
use Rattle.page_store.specs.Ahead.{IsAhead}
use Rattle.page_store.specs.Leaves.{AreReady}
use Rattle.image_meaning.specs.Meaning.{IsSoundUnder, logical_image_under, versions_on, version_in, kept_by}
use Rattle.image_meaning.specs.Moments.{LeavesTableUnder}
use Rattle.image_meaning.specs.LogicalImages.{ReplaceAll}
use Rattle.image_meaning.specs.Redone.{IsRedone, AreKnown}
use Rattle.image_meaning.specs.Beside.{AreRingsSoundUnder}
use Rattle.analysis.specs.Read.{IsAnalysis}
use Rattle.log_judge.specs.Judging.{HasHeard}
use Rattle.checkpoint.specs.declared.master.Master.{Master}
use Rattle.analysis.specs.Taken.{is_taken}
use Rattle.image_changes.specs.Rings.{KeepsUnits, master_shape}
use Rattle.redo_undo.specs.declared.redo_pass.Redone.{Redone}

-- What a restart begins with: log and pages fit an image that is sound and stands for this table under its newest
-- master. Nothing of the log is unsealed, and the pool is empty.
pub record IsOpened (g : Geometry) (log : LogStore) (pages : PageStore) (site : State) (newest : Option Master)
    (blocks : List (List LogRecord)) (table : List Content) (commits : ℕ) : Type 0 where
  pub kept : log.kept ≡ kept_by newest
  pub ready : AreReady pages log (record { first = kept_by newest; blocks = blocks; tail = [] }) site
  pub sound : IsSoundUnder newest g site.image blocks
  pub means : Means (logical_image_under newest g site.image blocks) table commits
  pub empty : pages.pool.frames ≡ []

-- the image that a restart begins with, its newest master, the blocks of its log, and what it stands for
pub record Opening : Type 0 where
  pub sizes : Geometry
  pub image : Image
  pub newest : Option Master
  pub blocks : List (List LogRecord)
  pub table : List Content
  pub commits : ℕ

abbrev pub opened : Opening → LogicalImage
opened o = logical_image_under o.newest o.sizes o.image o.blocks

-- what redoing these records of the log asks of the cache
abbrev pub touches_of : Opening → List Entry → List CacheOp
touches_of o records = filter_map (redo_touch (opened o)) records

-- what reading them asks: those from the redo block on are redone
abbrev pub asked_of : Opening → List Entry → List CacheOp
asked_of o records = touches_of o (from_block (opened o).master.redo records)

-- of these records, those that analysis hears of
abbrev pub heard_of : lists.Master → List Entry → List Entry
heard_of m records = filter (is_taken m) records

-- an LSN is that of the page's version, or none above the last of these records
abbrev pub IsFrom : LogicalImage → List Entry → ℕ → ℕ → Type 0
IsFrom p front page lsn = (lsn ≡ (version_at p.pages page).lsn) ⊎ (lsn ≤ last_lsn front)

-- a snapshot stands for the same table
abbrev pub LeavesOpened : Opening → List ℕ → Snapshot → Type 0
LeavesOpened o told snapshot = LeavesTableUnder o.newest o.sizes o.table o.commits told snapshot

-- While these records of an opened log are read, and redone from the redo block on: log and pages fit the site, and
-- nothing of the log is unsealed. Each page's version may replace the one that it had when the log was opened. Each
-- page's content is that version with the records up to the page's LSN redone, and it knows of all of these records.
-- Its LSN is that version's, or none above the last of these records.
pub record IsRedoing (o : Opening) (log : LogStore) (pages : PageStore) (site : State)
    (front : List Entry) : Type 0 where
  pub geometry : pages.flash.geometry ≡ o.sizes
  pub kept : log.kept ≡ kept_by o.newest
  pub sound : lists.IsSound (opened o)
  pub means : Means (opened o) o.table o.commits
  pub ready : AreReady pages log (record { first = kept_by o.newest; blocks = o.blocks; tail = [] }) site
  pub rings : AreRingsSoundUnder o.newest o.sizes site.image
  pub masters : KeepsUnits master_shape o.image site.image
  pub ahead : IsAhead log pages site.image
  pub replace : ReplaceAll (opened o) (versions_on o.sizes site.image)
  pub redone : (page : ℕ) → page < o.sizes.pages → IsRedone (opened o) page (version_in (current pages site.image page))
  pub known : (page : ℕ) → page < o.sizes.pages → AreKnown front page (lsn_of (current pages site.image page))
  pub from : (page : ℕ) → page < o.sizes.pages → IsFrom (opened o) front page (lsn_of (current pages site.image page))

-- Log and pages fit the site, and the log has the blocks that it was opened with, whatever their records say. Nothing
-- of it is unsealed.
pub record IsReadable (o : Opening) (log : LogStore) (pages : PageStore) (site : State) : Type 0 where
  pub kept : log.kept ≡ kept_by o.newest
  pub ready : AreReady pages log (record { first = kept_by o.newest; blocks = o.blocks; tail = [] }) site

-- While they are read: these ones keep the rules so far, and they are counted.
pub record IsReading (o : Opening) (log : LogStore) (pages : PageStore) (site : State) (so_far : Redone)
    (front : List Entry) : Type 0 where
  pub readable : IsReadable o log pages site
  pub heard : HasHeard (opened o) front so_far.judge
  pub count : so_far.records ≡ length front

-- These records are read: the pages have them redone, analysis knows of them, they are judged and counted.
pub record HasTaken (o : Opening) (log : LogStore) (pages : PageStore) (site : State) (so_far : Redone)
    (front : List Entry) : Type 0 where
  pub pages_are : IsRedoing o log pages site front
  pub analysis : IsAnalysis (opened o).master (heard_of (opened o).master front) so_far.found
  pub heard : HasHeard (opened o) front so_far.judge
  pub count : so_far.records ≡ length front

-- a call that redoes asks for this work, and does it on a log whose tail has no records
pub record AsksAtRest {T : Type 0} (result : Result T Stop) (works : List CacheOp) (old new : PageStore)
    (before now : State) : Type 0 where
  pub asks : StepsMachine result works old new before now
  pub performs : PerformsAtRest result works old new

-- A call takes the next records of the log: then they are read, each crash meanwhile leaves what the log was opened
-- with, and it asks the cache for their pages.
pub record Takes {T : Type 0} (result : Result T Stop) (o : Opening) (old new : LogStore) (pages pages' : PageStore)
    (before now : State) (so_far : Redone) (front next : List Entry) : Type 0 where
  pub taken : OnOk result (HasTaken o new pages' now so_far (front ++ next))
  pub keeps : Keeps result pages.flash.geometry old new before now (LeavesOpened o before.told) 0 0
  pub asks : AsksAtRest result (asked_of o next) pages pages' before now
