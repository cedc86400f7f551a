-- What the log and the pages hold together.
use Rattle.std.specs.Prelude.{◌≡◌, ◌⊎◌, ℕ, ◌+◌, ◌-◌, ◌/◌, ◌^◌, ◌≤◌, ◌<◌, if◌then◌else◌, List, [], ◌∷◌, ◌++◌, Some, None}
use Rattle.std.specs.Prelude.{Option}
use Rattle.site.specs.declared.outside.Dev.{Dev}
use Rattle.site.specs.declared.outside.Dev.TheVariants.{Log, Flash, Disk}
use Rattle.site.specs.declared.geometry.Geometry.{Geometry}
use Rattle.site.specs.State.{State, Image}
use Rattle.sealed_ring.specs.Ring.{hi_of}
use Rattle.image_changes.specs.Rings.{master_shape}
use Rattle.log_records.specs.declared.log_record.LogRecord.{LogRecord}
use Rattle.log_records.specs.Log.{Entry, number_of}
use Rattle.log_records.specs.Unfinished.{owed}
use Rattle.log_records.specs.Sound.{commit_number}
use Rattle.log_laws.specs.Follow.{Follows}
use Rattle.flash_cache.specs.Representation as flash_cache
use Rattle.log_store.specs.declared.store.LogStore.{LogStore}
use Rattle.log_store.specs.Representation as log_store
use Rattle.log_store.specs.Representation.{has_tail, end_of}
use Rattle.slotted_page.specs.Layout.{lsn_of}
use Rattle.write_ahead.specs.Forcing.{IsLogAtEnd}
use Rattle.page_store.specs.declared.store.PageStore.{PageStore}
use Rattle.page_store.specs.Representation as page_store
use Rattle.page_store.specs.Representation.{current}
use Rattle.page_store.specs.Ahead.{IsAhead}
use Rattle.page_store.specs.Leaves.{AreReady}
use Rattle.checkpoint.specs.declared.master.Master.{Master}
use Rattle.image_meaning.specs.Meaning.{logical_image_under, versions_on, version_in, master_of, kept_by}
use Rattle.image_meaning.specs.Redone.{ShowsAll}
use Rattle.image_meaning.specs.Beside.{AreRingsSoundUnder}
use Rattle.redo_laws.specs.Running.{History, RunsOn}

-- how many blocks there are once the tail is sealed
abbrev pub blocks_to : LogStore → ℕ
blocks_to log = log.ring.hi + (if has_tail log then 1 else 0)

-- Of every site: log and pages may go on. From the kept block on there are no more blocks than can be live, the tail as
-- one of them.
pub record Invariant (log : LogStore) (pages : PageStore) (site : State) : Type 0 where
  pub log_going : log_store.Invariant log site
  pub pages_going : page_store.Invariant pages site
  pub sizes : log.geometry ≡ pages.flash.geometry
  pub room : blocks_to log < log.kept + log.geometry.blocks

-- Of an honest site, whatever is loose, but for what the pages show, under a newest master: log and pages fit it, and
-- the log keeps the blocks that the master keeps, with these records. What is sealed of them stands for
-- the table after some commits of this history, and all of them for the table after all commits. The log is ahead of
-- the pages, and has room to undo all.
pub record RepresentsLog (g : Geometry) (log : LogStore) (pages : PageStore) (site : State) (newest : Option Master)
    (records : List Entry) (history : History) : Type 0 where
  pub kept : log.kept ≡ kept_by newest
  pub blocks : List (List LogRecord)
  pub tail : List LogRecord
  pub ready : AreReady pages log (record { first = kept_by newest; blocks = blocks; tail = tail }) site
  pub rings : AreRingsSoundUnder newest g site.image
  pub runs_on : RunsOn (logical_image_under newest g site.image blocks) tail records history
  pub ahead : IsAhead log pages site.image
  pub room : blocks_to log + owed records ≤ log.kept + (g.blocks - 1)

-- each page has all records redone, those of the tail too
pub record ShowRecords (g : Geometry) (pages : PageStore) (image : Image) (records : List Entry) : Type 0 where
  pub each : (page : ℕ) → page < g.pages
      → ShowsAll records (versions_on g image) page (version_in (current pages image page))

-- Of an honest site: both. No page has an LSN that a next record may get.
pub record RepresentsIn (g : Geometry) (log : LogStore) (pages : PageStore) (site : State) (newest : Option Master)
    (records : List Entry) (history : History) : Type 0 where
  pub log_holds : RepresentsLog g log pages site newest records history
  pub shows : ShowRecords g pages site.image records
  pub below : (page : ℕ) → page < g.pages → lsn_of (current pages site.image page) < end_of log

abbrev pub Represents : LogStore → PageStore → State → Option Master → List Entry → History → Type 0
Represents log pages site newest records history =
    RepresentsIn pages.flash.geometry log pages site newest records history

-- One more record may be appended: it may stand there, is no Commit, and leaves room to undo all.
pub record MayGrow (log : LogStore) (pages : PageStore) (image : Image) (newest : Option Master) (records : List Entry)
    (e : Entry) : Type 0 where
  pub follows : Follows (master_of newest) (versions_on pages.flash.geometry image) records e
  pub no_commit : commit_number e ≡ None
  pub room : blocks_to log + 1 + owed (records ++ e ∷ []) ≤ log.kept + (pages.flash.geometry.blocks - 1)

-- a record is an Update or a CLR on a page
abbrev pub IsOnPage : ℕ → LogRecord → Type 0
IsOnPage page rec = (number : ℕ) × (number_of rec ≡ Some number) × (number / 32 ≡ page)

-- each page has the version and the content that it had
pub record KeepsPages (g : Geometry) (pages : PageStore) (old new : Image) : Type 0 where
  pub versions : versions_on g new ≡ versions_on g old
  pub current : (page : ℕ) → current pages new page ≡ current pages old page

-- the ring of the log's blocks, or that of the master units, stands at its end: nothing can be appended to it
abbrev pub IsLogWorn : Geometry → Image → Type 0
IsLogWorn g image = IsLogAtEnd g image ⊎ (hi_of master_shape image.log ≡ 2 ^ 40)

-- whatever stands there: on the log one of the two rings stands at its end, on flash the ring of segments has numbers
-- for at most one more; on the disk there is no ring
abbrev pub IsSpent : Dev → Geometry → Image → Type 0
IsSpent Log g image = IsLogWorn g image
IsSpent Flash g image = flash_cache.IsSpent g image
IsSpent Disk g image = ⊥
