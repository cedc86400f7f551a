-- What a restart and the commands ask of the page cache.
use Rattle.std.specs.Prelude.{◌≡◌, ℕ, ◌+◌, ◌-◌, ◌*◌, ◌≤◌, List, [], ◌++◌, length, map, Result, IfOk}
use Rattle.site.specs.declared.outside.Stop.{Stop}
use Rattle.site.specs.declared.geometry.Geometry.{Geometry}
use Rattle.site.specs.State.{State, Image}
use Rattle.image_changes.specs.Rings.{group_shape, units_on}
use Rattle.record_model.specs.Touches.{CacheOp}
use Rattle.log_records.specs.Sound.{LogicalImage}
use Rattle.frame_group.specs.Groups.{frames_in}
use Rattle.second_chance.specs.Queue.{Queue}
use Rattle.flash_cache.specs.Representation.{queue_of}
use Rattle.flash_cache.specs.OnDisk.{HasLastStaged}
use Rattle.sealed_ring.specs.Ring.{hi_of}
use Rattle.second_chance.specs.Machine.{Rules, Cache, after_works, staged_by_works}
use Rattle.page_store.specs.declared.store.PageStore.{PageStore}
use Rattle.page_store.specs.Caching.{cache_of, rules}
use Rattle.page_store.specs.Costs.{CallsForStaged}
use Rattle.page_store.specs.Staging.{WritesOnly}
use Rattle.site.specs.Moments.{LeavesOnly}
use Rattle.redo_laws.specs.MachineSteps.{redo_works, undo_works, checkpoint_works, next_group, finds_in, misses_in}

-- the queue on flash: the live groups, none of their frames referenced
abbrev pub queue_on : Geometry → Image → Queue
queue_on g image =
    let groups = map frames_in (units_on (group_shape g) image).live in
    queue_of (hi_of (group_shape g) image.flash - length groups) groups

-- a run begins with this queue and an empty pool
abbrev pub cache_on : Geometry → Image → Cache
cache_on g image = record { pool = []; queue = queue_on g image }

-- a restart: redo, then undo, then a checkpoint
abbrev pub restart_works : LogicalImage → List CacheOp
restart_works p = redo_works p ++ undo_works p.log ++ checkpoint_works

-- A crash meanwhile leaves no more groups than this work appends, beginning with a cache, and each disk page that it
-- doesn't stage as it was.
abbrev pub WritesFrom : Geometry → Rules → List CacheOp → Cache → State → State → Type 0
WritesFrom g r works start before now =
    LeavesOnly before now (λ s. WritesOnly g (staged_by_works r works start) (next_group (after_works r works start))
    before.image s.image)

-- And behind it the disk has of the frames that this work stages those that were staged last, by no calls but theirs.
pub record HasStagedFrom (g : Geometry) (r : Rules) (works : List CacheOp) (start : Cache) (before now : State)
    : Type 0 where
  pub last : HasLastStaged g (staged_by_works r works start) before now
  pub counted : CallsForStaged (staged_by_works r works start) start.queue.first (after_works r works start).queue.first
      before now

-- A call that opens pages asks for this work, beginning with a cache. At Ok the machine has done it. Beside so many
-- reads of flash that find the queue it reads no more pages than the work needs.
pub record AsksFrom {T : Type 0} (result : Result T Stop) (pages : T
    → PageStore) (r : Rules) (works : List CacheOp) (start : Cache) (scanned : ℕ) (before now : State) : Type 0 where
  pub machine : IfOk result (λ x. (cache_of (pages x) ≡ after_works r works start) × (rules (pages x) ≡ r))
  pub flash : now.flash_reads + 12 * next_group start
      ≤ before.flash_reads + scanned + 12 * next_group (after_works r works start) + finds_in r works start
  pub disk : now.disk_reads ≤ before.disk_reads + misses_in r works start
