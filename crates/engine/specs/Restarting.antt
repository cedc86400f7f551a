-- What a restart leaves.
use Rattle.std.specs.Prelude.{◌≡◌, ◌+◌, ◌<◌, ◌≤◌, false, List, length, Option, Result, IfOk, IfErr, OnOk, IsErrOf, ℕ}
use Rattle.site.specs.declared.outside.Dev.{Dev}
use Rattle.site.specs.declared.outside.Stop.{Stop}
use Rattle.site.specs.declared.outside.Stop.TheVariants.{Worn}
use Rattle.site.specs.declared.geometry.Geometry.{Geometry}
use Rattle.site.specs.State.{State, IsQuiet}
use Rattle.sealed_ring.specs.Ready.{IsUsable, Finds}
use Rattle.record_model.specs.State.{Content}
use Rattle.image_changes.specs.Rings.{master_shape}
use Rattle.log_records.specs.declared.log_record.LogRecord.{LogRecord}
use Rattle.log_records.specs.Log.{Entry, is_loser}
use Rattle.log_records.specs.Unfinished.{pending}
use Rattle.checkpoint.specs.Actives.{Ascend}
use Rattle.checkpoint.specs.declared.master.Master.{Master}
use Rattle.image_meaning.specs.Meaning.{saved_by, logical_image_under}
use Rattle.log_store.specs.Representation.{end_of}
use Rattle.page_store.specs.Stopping.{MayStop}
use Rattle.page_store.specs.Caching.{cache_of, rules}
use Rattle.redo_laws.specs.Holding as both
use Rattle.redo_laws.specs.Holding.{blocks_to, IsSpent}
use Rattle.redo_undo.specs.Redoing.{IsOpened}
use Rattle.engine.specs.declared.restart.Opened.{Opened}
use Rattle.engine.specs.declared.restart.Restarted.{Restarted}
use Rattle.engine.specs.Invariant.{sizes_of}
use Rattle.redo_undo.specs.Stores.{MayWork, Represents}
use Rattle.redo_undo.specs.StoreCalls.{AreNext}
use Rattle.redo_undo.specs.declared.store.TransactionStore.{TransactionStore}
use Rattle.engine.specs.Image.{log_under}
use Rattle.engine.specs.Leaves.{LeavesTable}
use Rattle.engine.specs.Calls.{Ends}
use Rattle.engine.specs.Numbers.{RestartsWithin}
use Rattle.engine.specs.Paging.{AsksFrom, HasStagedFrom, WritesFrom, restart_works}
use Rattle.site.specs.Work.{Calls}

-- of every site: what was opened may be recovered
pub record MayRecover (opened : Opened) (site : State) : Type 0 where
  pub going : both.Invariant opened.log opened.pages site
  pub ascend : Ascend opened.master.active
  pub few : length opened.master.active ≤ 8
  pub masters : IsUsable opened.masters site
  pub shape : opened.masters.shape ≡ master_shape

-- Of an honest site: what was opened has this newest master, its ring and these blocks, and stands for this table.
pub record IsReady (opened : Opened) (site : State) (newest : Option Master) (blocks : List (List LogRecord))
    (table : List Content) (commits : ℕ) : Type 0 where
  pub master : opened.master ≡ saved_by newest
  pub masters : Finds opened.masters site
  pub opened_is : IsOpened opened.pages.flash.geometry opened.log opened.pages site newest blocks table commits

-- An honest site stands after a restart for the table that its blocks stood for before. Nothing is unfinished, a
-- checkpoint was made, and no record counts.
pub record RestartedAs (restarted : Restarted) (site : State) (table : List Content) (commits : ℕ) : Type 0 where
  pub newest : Option Master
  pub records : List Entry
  pub holds : Represents restarted.store site newest records table commits
  pub finished : (t : ℕ) → is_loser records t ≡ false
  pub made : restarted.store.made ≡ 0
  pub commits_are : restarted.commits ≡ commits

-- A restart on every site, over a pool of so many pages: log and pages may go on, no record counts, and the log has
-- room.
pub record Restarts (result : Result Restarted Stop) (size : ℕ) (before now : State) : Type 0 where
  pub calls : Calls result before now
  pub going : IfOk result (λ restarted. MayWork restarted.store now)
  pub blocks : IfOk result (λ restarted. restarted.blocks ≡ (sizes_of restarted.store).blocks)
  pub room : IfOk result (λ restarted. blocks_to restarted.store.log < restarted.store.log.kept + restarted.blocks)
  pub commits : IfOk result (λ restarted. restarted.commits ≤ end_of restarted.store.log)
  pub made : IfOk result (λ restarted. restarted.store.made ≡ 0)
  pub pool : IfOk result (λ restarted. restarted.store.pages.pool.size ≡ size)
  pub stops : IfErr result (λ stop. MayStop stop)

-- The same of an honest site on which this was opened and is ready.
pub record Recovers (result : Result Restarted Stop) (opened : Opened) (before now : State) (newest : Option Master)
    (blocks : List (List LogRecord)) (table : List Content) (commits : ℕ) : Type 0 where
  pub restarted : IfOk result (λ restarted. RestartedAs restarted now table commits)
  pub ends : Ends result opened.pages.flash.geometry before now
      (LeavesTable opened.pages.flash.geometry table commits before.told)
  pub numbers : IsQuiet before → RestartsWithin result (λ restarted. restarted.store.log) opened.pages.flash.geometry
      (log_under newest blocks) before now
  pub asks : AsksFrom result (λ restarted. restarted.store.pages) (rules opened.pages)
      (restart_works (logical_image_under newest opened.pages.flash.geometry before.image blocks))
      (cache_of opened.pages) 0 before now
  pub log_reads : now.log_reads ≤ before.log_reads + (length blocks + length (pending (log_under newest blocks)))
  pub writes : IsQuiet before → WritesFrom opened.pages.flash.geometry (rules opened.pages)
      (restart_works (logical_image_under newest opened.pages.flash.geometry before.image blocks))
      (cache_of opened.pages) before now
  pub last : IsQuiet before → OnOk result (HasStagedFrom opened.pages.flash.geometry (rules opened.pages)
      (restart_works (logical_image_under newest opened.pages.flash.geometry before.image blocks))
      (cache_of opened.pages) before now)

-- what was opened, as a store of which nothing was redone yet
abbrev pub found_store : Opened → TransactionStore
found_store opened = record { log = opened.log; pages = opened.pages; masters = opened.masters; made = 0 }

-- What a restart leaves of an honest site of these sizes, whatever stood there: the next units of the rings are those
-- of the content, and a device is worn only where a ring of it is spent.
pub record LeavesNext {T : Type 0} (result : Result T Stop) (store_of : T → TransactionStore) (g : Geometry)
    (now : State) : Type 0 where
  pub next : IfOk result (λ x. AreNext (store_of x) now × (sizes_of (store_of x) ≡ g))
  pub worn : (dev : Dev) → IsErrOf result (Worn dev) → IsSpent dev g now.image
