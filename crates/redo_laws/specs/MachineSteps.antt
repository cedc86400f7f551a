-- What calls on pages ask of the cache: work for the machine, the groups that it appends, and the pages that it reads
-- at most.
use Rattle.std.specs.Prelude.{◌≡◌, ℕ, ◌+◌, ◌*◌, ◌≤◌, true, false, List, [], ◌∷◌, filter_map, reverse}
use Rattle.std.specs.Prelude.{if◌then◌else◌, Result, OnOk}
use Rattle.site.specs.declared.outside.Stop.{Stop}
use Rattle.site.specs.State.{State}
use Rattle.record_model.specs.Touches.{CacheOp, touch, flush}
use Rattle.log_records.specs.Log.{Entry}
use Rattle.log_records.specs.Unfinished.{pending, left_open}
use Rattle.log_records.specs.Restart.{redo_touch, undo_touch}
use Rattle.log_records.specs.Sound.{LogicalImage, from_block}
use Rattle.page_store.specs.declared.store.PageStore.{PageStore}
use Rattle.page_store.specs.Caching.{cache_of, rules}
pub use Rattle.page_store.specs.Caching.{next_group}
use Rattle.page_store.specs.Staging.{Stages}
use Rattle.second_chance.specs.Machine.{Rules, Cache, apply_op, after_works, finds, misses, staged_by_works}

-- Work.

-- one page is brought to the front, without a change and with one
abbrev pub one_touch : ℕ → List CacheOp
one_touch page = touch page false ∷ []

abbrev pub one_change : ℕ → List CacheOp
one_change page = touch page true ∷ []

-- redo: each Update and each CLR from the redo block on, in the order of the log
abbrev pub redo_works : LogicalImage → List CacheOp
redo_works p = filter_map (redo_touch p) (from_block p.master.redo p.log)

-- undo: all Updates that no CLR compensates, the last one first
abbrev pub undo_works : List Entry → List CacheOp
undo_works log = filter_map undo_touch (reverse (pending log))

-- undoing one transaction: those of its Updates
abbrev pub undo_one_works : List Entry → ℕ → List CacheOp
undo_one_works log txn = filter_map undo_touch (left_open log txn)

-- a checkpoint: all changed pages are pushed
abbrev pub checkpoint_works : List CacheOp
checkpoint_works = flush ∷ []

-- The pages that it reads.

-- how many touches find their page on flash, and how many miss it there; a touch of a page in the pool does neither
abbrev pub finds_by : Rules → CacheOp → Cache → ℕ
finds_by rules (touch page change) cache = if finds rules page cache then 1 else 0
finds_by rules flush cache = 0

abbrev pub finds_in : Rules → List CacheOp → Cache → ℕ
finds_in rules [] cache = 0
finds_in rules (work ∷ works) cache = finds_by rules work cache + finds_in rules works (apply_op rules work cache)

abbrev pub misses_by : Rules → CacheOp → Cache → ℕ
misses_by rules (touch page change) cache = if misses rules page cache then 1 else 0
misses_by rules flush cache = 0

abbrev pub misses_in : Rules → List CacheOp → Cache → ℕ
misses_in rules [] cache = 0
misses_in rules (work ∷ works) cache = misses_by rules work cache + misses_in rules works (apply_op rules work cache)

-- At most one read of flash for each touch that finds its page there, and twelve for each group that is appended (the
-- frames that are staged or have a second chance, and the heads of the groups of a segment); at most one of the disk
-- for each touch that misses its page on flash.
pub record ReadsFor (rules : Rules) (works : List CacheOp) (cache : Cache) (old new : State) : Type 0 where
  pub flash : new.flash_reads + 12 * next_group cache
      ≤ old.flash_reads + 12 * next_group (after_works rules works cache) + finds_in rules works cache
  pub disk : new.disk_reads ≤ old.disk_reads + misses_in rules works cache

-- Of an honest site on which the queue in memory is the one on flash: a crash meanwhile leaves no more groups than the
-- work appends, and each disk page that it doesn't stage as it was.
abbrev pub StagesFor : {T : Type 0} → Result T Stop → List CacheOp → PageStore → PageStore → State → State → Type 0
StagesFor result works old new before now =
    Stages result (staged_by_works (rules old) works (cache_of old))
    (next_group (after_works (rules old) works (cache_of old))) old new before now

-- A call asks for this work, and answers. At Ok the machine has done it. It reads and writes no more than the work
-- needs, however it ends.
pub record StepsMachine {T : Type 0} (result : Result T Stop) (works : List CacheOp) (old new : PageStore)
    (before now : State) : Type 0 where
  pub machine : OnOk result (cache_of new ≡ after_works (rules old) works (cache_of old))
  pub reads : ReadsFor (rules old) works (cache_of old) before now
  pub rules_are : rules new ≡ rules old
  pub stages : StagesFor result works old new before now

-- Laws. A queue on flash has room for a group.

-- no work takes a group's number back
abbrev pub NumbersRise : Type 0
NumbersRise = (rules : Rules) (works : List CacheOp) (cache : Cache) → 1 ≤ rules.groups
    → next_group cache ≤ next_group (after_works rules works cache)
