-- What the calls on pages ask and say, each as one record, with the call's result as its index where that matters.
use Rattle.std.specs.Prelude.{◌≡◌, ◌≢◌, ◌⊎◌, ℕ, ◌+◌, ◌*◌, ◌^◌, ◌≤◌, ◌<◌, Bool, true, if◌then◌else◌, IsTrue, List, ◌++◌}
use Rattle.std.specs.Prelude.{length, map, Option, Result, OnOk, IfErr, IsErrOf}
use Rattle.std.specs.List.{AllByRecursion}
use Rattle.site.specs.declared.outside.Dev.{Dev}
use Rattle.site.specs.declared.outside.Dev.TheVariants.{Log, Flash}
use Rattle.site.specs.declared.outside.Stop.{Stop}
use Rattle.site.specs.declared.outside.Stop.TheVariants.{Device, Worn, Memory, Foreign}
use Rattle.site.specs.State.{State, IsQuiet, reads_of, snapshot_of}
use Rattle.site.specs.Calls.{IsUnchanged}
use Rattle.site.specs.Moments.{LeavesOnly}
use Rattle.site.specs.Work.{Calls}
use Rattle.image_changes.specs.Changes.{Change, Reaches}
use Rattle.image_changes.specs.Reached.{LeavesFront}
use Rattle.slotted_page.specs.Layout.{IsSound}
use Rattle.flash_cache.specs.Representation as flash_cache
use Rattle.flash_cache.specs.Representation.{IsWorn}
use Rattle.flash_cache.specs.Pushed.{chance_marks, pushed_queue, sum_of, calls_by}
use Rattle.flash_cache.specs.Kept.{AreCleanGiven}
use Rattle.second_chance.specs.Queue.{has_frame, frame_of as known_of}
use Rattle.second_chance.specs.Machine.{chance_frame, wants_flush, push_changed, flushed}
use Rattle.second_chance.specs.Laws.{changed_count}
use Rattle.log_store.specs.declared.store.LogStore.{LogStore}
use Rattle.log_store.specs.LogList.{LogList, sealed_if}
use Rattle.log_store.specs.Representation as log_store
use Rattle.log_store.specs.Representation.{has_tail, HasRoom}
use Rattle.checkpoint.specs.declared.master.Master.{Master}
use Rattle.image_meaning.specs.Beside.{AreRingsSoundUnder}
use Rattle.write_ahead.specs.Forcing.{IsLogged, end_forced, forces, IsLogAtEnd, Forces}
use Rattle.page_store.specs.declared.store.PageStore.{PageStore}
use Rattle.page_store.specs.Representation.{Invariant, Matches, current}
use Rattle.page_store.specs.Caching.{next_group, cache_of, rules}
use Rattle.page_store.specs.Costs.{CallsForUnits}
use Rattle.page_store.specs.Ahead.{AreSealed, LeavesSealed, AreLogged, IsAhead}
use Rattle.page_store.specs.Leaves.{AreReady, LeavesPages, LeavesRings, AreGiven, Gives, AreChanged, KeepsCurrent}
use Rattle.page_store.specs.Flushing.{saved_next, cleared_all, flushed_first, flushed_contents}
use Rattle.page_store.specs.Stopping.{MayStop}

-- A log and the pages beside it may go on together: they have one geometry, and there is room for the block of the
-- log's tail.
pub record MayWork (log : LogStore) (pages : PageStore) (site : State) : Type 0 where
  pub pages_going : Invariant pages site
  pub log_going : log_store.Invariant log site
  pub sizes : log.geometry ≡ pages.flash.geometry
  pub room : has_tail log ≡ true → HasRoom log

-- Of every site.

-- Over an honest site, whatever stands there: the next block of the log and the next segment on flash are those of the
-- content again, and a ring is worn only at its end.
pub record KeepsNext {T : Type 0} (result : Result T Stop) (old new : LogStore) (pages pages' : PageStore)
    (before now : State) : Type 0 where
  pub block : log_store.KeepsNext result old new before now
  pub segment : flash_cache.KeepsNext result pages.flash pages'.flash before now

-- A call on pages: both may go on, sizes stay, and the log is forced only where that is said.
pub record KeepsInvariant {T : Type 0} (result : Result T Stop) (old new : LogStore) (pages pages' : PageStore)
    (before now : State) (sealing : Bool) : Type 0 where
  pub calls : Calls result before now
  pub forces : Forces result old new sealing
  pub going : Invariant pages' now
  pub log_going : log_store.Invariant new now
  pub geometry : pages'.flash.geometry ≡ pages.flash.geometry
  pub size : pages'.pool.size ≡ pages.pool.size
  pub log_reads : now.log_reads ≡ before.log_reads
  pub stops : IfErr result (λ stop. MayStop stop)
  pub next : IsTrue before.honest → KeepsNext result old new pages pages' before now

-- A call that reads no page in: what it reads is of the queue, and of pages that are logged it leaves such.
pub record Pushes {T : Type 0} (result : Result T Stop) (old new : LogStore) (pages pages' : PageStore)
    (before now : State) (sealing : Bool) : Type 0 where
  pub works : KeepsInvariant result old new pages pages' before now sealing
  pub logged : AreLogged (end_forced old) pages.pool.frames →
      OnOk result (AreLogged (end_forced new) pages'.pool.frames)
  pub ended : pages'.ended ≡ pages.ended
  pub others : (d : Dev) → d ≢ Flash → reads_of d now ≡ reads_of d before

-- When a ring at its end stops a call: that of the log where the log is forced, unless memory is wanting before; that
-- of the flash where a group is pushed, and each such push.
pub record StopsAtEnd {T : Type 0} (result : Result T Stop) (log : LogStore) (pages : PageStore)
    (sealing pushing : Bool) : Type 0 where
  pub worn_log : IsErrOf result (Worn Log) → (sealing ≡ true) × (log.ring.hi ≡ 2 ^ 40)
  pub at_log_end : sealing ≡ true → log.ring.hi ≡ 2 ^ 40 → IsErrOf result (Worn Log) ⊎ IsErrOf result Memory
  pub worn_flash : IsErrOf result (Worn Flash) → (pushing ≡ true) × (pages.flash.ring.hi ≡ 2 ^ 40)
  pub never_past : pushing ≡ true → pages.flash.ring.hi ≡ 2 ^ 40 → OnOk result ⊥

-- one push of a flush
pub record Saves {T : Type 0} (result : Result T Stop) (log : LogStore) (pages pages' : PageStore) (before now : State)
    : Type 0 where
  pub machine : OnOk result (cache_of pages' ≡ push_changed (rules pages) (cache_of pages))
  pub frames : OnOk result
      (pages'.pool.frames ≡ cleared_all (map (λ f. f.page) (saved_next pages)) pages.pool.frames)
  pub directory : OnOk result
      (pages'.flash.directory ≡ pushed_queue pages.flash (map chance_frame (chance_marks pages.flash)
      ++ map (λ f. known_of f.page true) (saved_next pages)))
  pub gives : (list : LogList) → AreReady pages log list before →
      OnOk result (Gives pages.flash.geometry (map (λ f. f.page) (saved_next pages)) (flushed_first pages)
      before.image now.image)
  pub reads : now.flash_reads ≤ before.flash_reads + 12
  pub worn_log : IsErrOf result (Worn Log) → (forces log (flushed_first pages) ≡ true) × (log.ring.hi ≡ 2 ^ 40)
  pub worn_flash : IsErrOf result (Worn Flash) → pages.flash.ring.hi ≡ 2 ^ 40
  pub worn_at : IsErrOf result (Worn Flash) → pages'.flash.ring.hi ≡ 2 ^ 40
  pub never_past : pages.flash.ring.hi ≡ 2 ^ 40 → OnOk result ⊥

-- a whole flush
pub record Flushes {T : Type 0} (result : Result T Stop) (log : LogStore) (pages pages' : PageStore)
    (before now : State) : Type 0 where
  pub machine : OnOk result (cache_of pages' ≡ flushed (rules pages) (cache_of pages))
  pub reads : now.flash_reads ≤ before.flash_reads + 12 * changed_count (cache_of pages).pool
  pub asked : now.flash_reads + 12 * next_group (cache_of pages) ≤
      before.flash_reads + 12 * next_group (flushed (rules pages) (cache_of pages))
  pub overflows : IsErrOf result (Worn Flash) → 2 ^ 40 < next_group (flushed (rules pages) (cache_of pages))
  pub worn_log : IsErrOf result (Worn Log) → (forces log (flushed_contents pages) ≡ true) × (log.ring.hi ≡ 2 ^ 40)
  pub worn_flash : IsErrOf result (Worn Flash) → pages'.flash.ring.hi ≡ 2 ^ 40
  pub never_past : wants_flush (cache_of pages) ≡ true → pages.flash.ring.hi ≡ 2 ^ 40 → OnOk result ⊥

-- A page is read, from its frame or from the disk: a site that is honest stays as it is.
pub record Reads {T : Type 0} (result : Result T Stop) (pages pages' : PageStore) (before now : State) (page : ℕ)
    : Type 0 where
  pub calls : Calls result before now
  pub same : IsTrue before.honest → IsUnchanged before now
  pub fits : Matches pages before → OnOk result (Matches pages' now)
  pub going : Invariant pages' now
  pub geometry : pages'.flash.geometry ≡ pages.flash.geometry
  pub segments : pages'.flash.segments ≡ pages.flash.segments
  pub ended : pages'.ended ≡ pages.ended
  pub flash_reads : now.flash_reads ≤ before.flash_reads + (if has_frame pages.flash.directory page then 1 else 0)
  pub disk_reads : now.disk_reads ≤ before.disk_reads + (if has_frame pages.flash.directory page then 0 else 1)
  pub log_reads : now.log_reads ≡ before.log_reads
  pub foreign : IsErrOf result Foreign → Matches pages before → ⊥

-- Of an honest site on which store and log are ready.

-- Each crash meanwhile leaves each page with its version or its content, rings that were sound, a log ahead that was
-- so, and a front of these changes of the image; and no error comes but for its cause.
pub record Keeps {T : Type 0} (result : Result T Stop) (log : LogStore) (pages : PageStore) (before now : State)
    (list : LogList) (sealing : Bool) (changes : List Change) : Type 0 where
  pub any_moment : IsQuiet before →
      LeavesOnly before now (LeavesPages pages.flash.geometry (current pages before.image) sealing list before)
  pub ahead_moment : IsQuiet before → IsAhead log pages before.image →
      LeavesOnly before now (LeavesSealed pages.flash.geometry)
  pub rings_moment : (newest : Option Master) → IsQuiet before →
      AreRingsSoundUnder newest pages.flash.geometry before.image →
      LeavesOnly before now (LeavesRings newest pages.flash.geometry)
  pub front_moment : IsQuiet before → LeavesFront pages.flash.geometry changes before now
  pub quiet : IsQuiet before → IfErr result (λ stop. ((d : Dev) → stop ≢ Device d) → IsQuiet now)
  pub worn_log : IsErrOf result (Worn Log) → IsLogAtEnd pages.flash.geometry now.image
  pub worn : IsErrOf result (Worn Flash) → IsWorn pages.flash.geometry now.image
  pub readable : IsErrOf result Foreign → ⊥

-- What stands behind it: store and log are ready, each page has the content that it had, and these changes of the image
-- were made.
pub record Stands (old new : LogStore) (pages pages' : PageStore) (before now : State) (list : LogList) (sealing : Bool)
    (changes : List Change) : Type 0 where
  pub ready : AreReady pages' new (sealed_if sealing list) now
  pub leaves : LeavesPages pages.flash.geometry (current pages before.image) sealing list before (snapshot_of now)
  pub current : KeepsCurrent pages before.image pages' now.image
  pub sealed : IsAhead old pages before.image → AreSealed pages.flash.geometry now.image
  pub ahead : IsAhead old pages before.image → IsAhead new pages' now.image
  pub rings : (newest : Option Master) → AreRingsSoundUnder newest pages.flash.geometry before.image →
      AreRingsSoundUnder newest pages.flash.geometry now.image
  pub reaches : Reaches pages.flash.geometry changes before.image now.image
  -- by the calls of these changes, which are those of the units that were appended, and of the disk
  pub calls : length now.past ≡ length before.past + sum_of calls_by changes
  pub device_calls : IsQuiet before → CallsForUnits pages.flash.geometry before now

-- The same of a push of these pages, whatever is given as their contents.
pub record KeepsGiven {T : Type 0} (result : Result T Stop) (log : LogStore) (pages : PageStore) (numbers : List ℕ)
    (changed : List Bool) (contents : List (List ℕ)) (before now : State) (list : LogList) (changes : List Change)
    : Type 0 where
  pub any_moment : (given : ℕ → List ℕ) → IsQuiet before → AreGiven given numbers contents →
      AreCleanGiven pages.flash numbers changed contents before.image →
      LeavesOnly before now (LeavesPages pages.flash.geometry given (forces log contents) list before)
  pub ahead_moment : IsQuiet before → AreSealed pages.flash.geometry before.image →
      AllByRecursion (IsLogged (end_forced log)) contents → LeavesOnly before now (LeavesSealed pages.flash.geometry)
  pub rings_moment : (newest : Option Master) → IsQuiet before →
      AreRingsSoundUnder newest pages.flash.geometry before.image → AllByRecursion IsSound contents →
      LeavesOnly before now (LeavesRings newest pages.flash.geometry)
  pub front_moment : IsQuiet before → LeavesFront pages.flash.geometry changes before now
  pub quiet : IsQuiet before → IfErr result (λ stop. ((d : Dev) → stop ≢ Device d) → IsQuiet now)
  pub worn_log : IsErrOf result (Worn Log) → IsLogAtEnd pages.flash.geometry now.image
  pub worn : IsErrOf result (Worn Flash) → IsWorn pages.flash.geometry now.image
  pub readable : IsErrOf result Foreign → ⊥

pub record StandsGiven (log new : LogStore) (pages pages' : PageStore) (numbers : List ℕ) (changed : List Bool)
    (contents : List (List ℕ)) (before now : State) (list : LogList) (changes : List Change) : Type 0 where
  pub gives : Gives pages.flash.geometry numbers contents before.image now.image
  pub reaches : Reaches pages.flash.geometry changes before.image now.image
  pub calls : length now.past ≡ length before.past + sum_of calls_by changes
  pub device_calls : IsQuiet before → CallsForUnits pages.flash.geometry before now
  pub leaves : (given : ℕ → List ℕ) → AreGiven given numbers contents →
      AreCleanGiven pages.flash numbers changed contents before.image →
      LeavesPages pages.flash.geometry given (forces log contents) list before (snapshot_of now)
  pub sealed : AreSealed pages.flash.geometry before.image → AllByRecursion (IsLogged (end_forced log)) contents →
      AreSealed pages.flash.geometry now.image
  pub rings : (newest : Option Master) → AreRingsSoundUnder newest pages.flash.geometry before.image →
      AllByRecursion IsSound contents → AreRingsSoundUnder newest pages.flash.geometry now.image
  pub ready : AreCleanGiven pages.flash numbers changed contents before.image → AllByRecursion IsSound contents →
      AreChanged pages numbers → AreReady pages' new (sealed_if (forces log contents) list) now
