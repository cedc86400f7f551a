-- What follows from the machine, for those who build on it.
use Rattle.std.specs.Prelude.{◌≡◌, ◌≢◌, ℕ, ◌+◌, ◌<◌, ◌≤◌, ◌==◌, Bool, true, false, List, [], ◌∷◌, ◌++◌, length, map}
use Rattle.std.specs.Prelude.{filter, filter_map, slice_get, Some, option_map, All, AllPairs}
use Rattle.std.specs.List.{list_any}
use Rattle.byte_fields.specs.declared.frame_head.Mark.{Mark}
use Rattle.record_model.specs.Touches.{flush}
use Rattle.second_chance.specs.declared.frame.Frame.{Frame}
use Rattle.second_chance.specs.declared.plan.Plan.{Plan}
use Rattle.second_chance.specs.Queue.{pushed, frame_of}
use Rattle.second_chance.specs.Plans.{Placed, chances_of, staged_of, eviction_plan, flush_plan}
use Rattle.second_chance.specs.Machine.{Rules, PoolPage, Cache, is_changed, without, saved, pool_marks, is_full}
use Rattle.second_chance.specs.Machine.{leaving, push_evicted, push_changed, wants_flush, flushed, Staged}
use Rattle.second_chance.specs.Machine.{staged_in_push, staged_by}

-- whether a page is among those that a plan names
abbrev pub names : List ℕ → ℕ → Bool
names pages page = list_any (λ other. other == page) pages

-- the frames that a plan puts into the new group again, by the marks of the front group
abbrev pub given_again : List Mark → List ℕ → List Frame
given_again front places = filter_map
    (λ place. option_map (λ mark. frame_of mark.page mark.dirty) (slice_get front place)) places

-- the frames that a plan stages, by the number of the front group and its marks
abbrev pub staged_from : ℕ → List Mark → List ℕ → List Staged
staged_from group front places =
    filter_map (λ place. option_map (λ mark. record { group = group; index = place; page = mark.page })
    (slice_get front place)) places

-- What a plan for an evicted page says, done to the cache: its second chances, the evicted page and its pages are the
-- new group, each dirty as it was, and its pages leave the pool.
abbrev pub eviction_done : Rules → PoolPage → Plan → Cache → Cache
eviction_done rules own plan cache = record {
  pool = without (names plan.pulled) cache.pool;
  queue = pushed (is_full rules cache.queue)
      (given_again (leaving rules cache.queue) plan.chances ++ frame_of own.page own.changed
      ∷ map (λ page. frame_of page (is_changed cache.pool page)) plan.pulled)
      cache.queue;
}

-- What a plan for a flush says, done to the cache: its second chances and its pages, which are dirty, are the new
-- group, and its pages count as unchanged.
abbrev pub flush_done : Rules → Plan → Cache → Cache
flush_done rules plan cache = record {
  pool = saved (names plan.pulled) cache.pool;
  queue = pushed (is_full rules cache.queue) (given_again (leaving rules cache.queue) plan.chances
      ++ map (λ page. frame_of page true) plan.pulled) cache.queue;
}

abbrev pub plan_for_eviction : Rules → Cache → Plan
plan_for_eviction rules cache = eviction_plan rules.pulls rules.chances (leaving rules cache.queue) (pool_marks cache)

abbrev pub plan_for_flush : Rules → Cache → Plan
plan_for_flush rules cache = flush_plan rules.chances (leaving rules cache.queue) (pool_marks cache)

-- no page stands in the pool twice
abbrev pub AreApart : List PoolPage → Type 0
AreApart pool = AllPairs (λ a b. a.page ≢ b.page) pool

-- To do what the plans say is to push.
abbrev pub EvictionIsPlanned : Type 0
EvictionIsPlanned = (rules : Rules) (own : PoolPage) (cache : Cache) → AreApart cache.pool
    → push_evicted rules own cache ≡ eviction_done rules own (plan_for_eviction rules cache) cache

abbrev pub FlushIsPlanned : Type 0
FlushIsPlanned = (rules : Rules) (cache : Cache)
    → push_changed rules cache ≡ flush_done rules (plan_for_flush rules cache) cache

-- The plans' staged frames are the push's.
abbrev pub StagedIsPlanned : Type 0
StagedIsPlanned = (rules : Rules) (cache : Cache)
    → (staged_in_push rules cache.queue
    ≡ staged_from cache.queue.first (leaving rules cache.queue) (plan_for_eviction rules cache).staged)
    × (staged_in_push rules cache.queue
    ≡ staged_from cache.queue.first (leaving rules cache.queue) (plan_for_flush rules cache).staged)

-- A flush, push by push. Where a page is changed, the flush is what it is after one push, and the push leaves fewer
-- pages changed.
abbrev pub changed_count : List PoolPage → ℕ
changed_count pool = length (filter (λ p. p.changed) pool)

abbrev pub PushSavesAPage : Type 0
PushSavesAPage = (rules : Rules) (cache : Cache) → wants_flush cache ≡ true
    → changed_count (push_changed rules cache).pool < changed_count cache.pool

abbrev pub FlushGoesOn : Type 0
FlushGoesOn = (rules : Rules) (cache : Cache) → wants_flush cache ≡ true
    → (flushed rules cache ≡ flushed rules (push_changed rules cache))
    × (staged_by rules flush cache
    ≡ staged_in_push rules cache.queue ++ staged_by rules flush (push_changed rules cache))

abbrev pub FlushEnds : Type 0
FlushEnds = (rules : Rules) (cache : Cache) → wants_flush cache ≡ false
    → (flushed rules cache ≡ cache) × (staged_by rules flush cache ≡ [])

abbrev pub FlushSavesAll : Type 0
FlushSavesAll = (rules : Rules) (cache : Cache) → wants_flush (flushed rules cache) ≡ false

-- a second chance stands at its place in the front group, where it is valid and referenced
pub record IsChanceIn (front : List Mark) (frame : Placed) : Type 0 where
  pub stands : slice_get front frame.0 ≡ Some frame.1
  pub valid : frame.1.valid ≡ true
  pub referenced : frame.1.referenced ≡ true

abbrev pub ChancesStand : Type 0
ChancesStand = (given : Bool) (front : List Mark) → All (IsChanceIn front) (chances_of given front)

-- A group has at most seven second chances.
abbrev pub ChancesFew : Type 0
ChancesFew = (given : Bool) (front : List Mark) → length (chances_of given front) ≤ 7

-- No frame is both staged and a second chance.
abbrev pub ChancesAreNotStaged : Type 0
ChancesAreNotStaged = (given : Bool) (front : List Mark)
    → length (staged_of given front) + length (chances_of given front) ≤ length front

-- a staged frame stands at its place in the front group, where it is valid and dirty
pub record IsStagedIn (front : List Mark) (frame : Placed) : Type 0 where
  pub stands : slice_get front frame.0 ≡ Some frame.1
  pub valid : frame.1.valid ≡ true
  pub dirty : frame.1.dirty ≡ true
