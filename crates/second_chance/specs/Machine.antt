-- The page cache as a machine: a pool of pages in memory, and a queue of groups of pages on flash.
use Rattle.std.specs.Prelude.{ℕ, zero, suc, ◌+◌, ◌-◌, ◌==◌, Bool, false, not, ◌&&◌, ◌||◌, nat_le, List, [], ◌∷◌, ◌++◌}
use Rattle.std.specs.Prelude.{length, map, filter, reverse, if◌then◌else◌}
use Rattle.std.specs.List.{list_any}
use Rattle.byte_fields.specs.declared.frame_head.Mark.{Mark}
use Rattle.record_model.specs.declared.words.CacheLine.{CacheLine}
use Rattle.record_model.specs.declared.words.CacheLine.TheVariants as line
use Rattle.record_model.specs.Touches.{CacheOp, touch, flush}
use Rattle.second_chance.specs.declared.frame.Frame.{Frame}
use Rattle.second_chance.specs.declared.plan.PoolMark.{PoolMark}
use Rattle.second_chance.specs.Queue.{Queue, has_frame, marks, front_marks, with_read, pushed, frame_of}
use Rattle.second_chance.specs.Plans.{chances_given, pages_pulled, Placed, chances_of, staged_of, pulled_at_eviction}
use Rattle.second_chance.specs.Plans.{pulled_at_flush}

-- How many pages the pool holds and how many groups the queue, whether second chances are given, and whether a push at
-- an eviction pulls pages from the cold end of the pool.
pub record Rules : Type 0 where
  pub pages : ℕ
  pub groups : ℕ
  pub chances : Bool
  pub pulls : Bool

-- the rules for a pool of so many pages and a flash of so many groups, of which the queue leaves one free
abbrev pub rules_of : ℕ → ℕ → Rules
rules_of pages groups = record { pages = pages; groups = groups - 1; chances = chances_given; pulls = pages_pulled }

pub record PoolPage : Type 0 where
  pub page : ℕ
  pub changed : Bool

-- the pool, the page that was touched last in front, and the queue
pub record Cache : Type 0 where
  pub pool : List PoolPage
  pub queue : Queue

-- the number of the group that the next push appends
abbrev pub next_group : Cache → ℕ
next_group cache = cache.queue.first + length cache.queue.groups

-- The pool.

abbrev pub holds : List PoolPage → ℕ → Bool
holds pool page = list_any (λ p. p.page == page) pool

abbrev pub is_changed : List PoolPage → ℕ → Bool
is_changed pool page = list_any (λ p. p.page == page && p.changed) pool

abbrev pub without : (ℕ → Bool) → List PoolPage → List PoolPage
without leaves pool = filter (λ p. not (leaves p.page)) pool

-- the pool once these pages were saved: they stay in place and count as unchanged
abbrev pub saved_page : (ℕ → Bool) → PoolPage → PoolPage
saved_page is_saved p = record p { changed = p.changed && not (is_saved p.page) }

abbrev pub saved : (ℕ → Bool) → List PoolPage → List PoolPage
saved is_saved pool = map (saved_page is_saved) pool

-- what a plan knows of the pool's pages, the coldest in front
abbrev pub pool_mark : Queue → PoolPage → PoolMark
pool_mark queue p = record { page = p.page; changed = p.changed; framed = has_frame queue p.page }

abbrev pub pool_marks : Cache → List PoolMark
pool_marks cache = map (pool_mark cache.queue) (reverse cache.pool)

-- A push. All marks are those before it.

-- whether the front group leaves with a push, and the marks of what leaves
abbrev pub is_full : Rules → Queue → Bool
is_full rules queue = nat_le rules.groups (length queue.groups)

abbrev pub leaving : Rules → Queue → List Mark
leaving rules queue = if is_full rules queue then front_marks queue.groups else []

abbrev pub chance_frame : Placed → Frame
chance_frame f = frame_of f.1.page f.1.dirty

abbrev pub pool_frame : PoolMark → Frame
pool_frame p = frame_of p.page p.changed

-- the queue with a new group: the second chances, the evicted page if there is one, and the pages pulled from the pool
abbrev pub queue_after : Rules → Queue → List PoolMark → List PoolMark → Queue
queue_after rules queue own pulled =
    pushed (is_full rules queue) (map chance_frame (chances_of rules.chances (leaving rules queue))
    ++ map pool_frame (own ++ pulled)) queue

abbrev pub is_pulled : List PoolMark → ℕ → Bool
is_pulled pulled page = list_any (λ p. p.page == page) pulled

-- a push with a page that has left the pool: the pulled pages leave the pool too
abbrev pub push_evicted : Rules → PoolPage → Cache → Cache
push_evicted rules own cache =
    let pulled = pulled_at_eviction rules.pulls rules.chances (leaving rules cache.queue) (pool_marks cache) in
    record {
      pool = without (is_pulled pulled) cache.pool;
      queue = queue_after rules cache.queue (pool_mark cache.queue own ∷ []) pulled;
    }

-- a push of a flush: the pulled pages stay in the pool, and count as unchanged
abbrev pub push_changed : Rules → Cache → Cache
push_changed rules cache =
    let pulled = pulled_at_flush rules.chances (leaving rules cache.queue) (pool_marks cache) in
    record { pool = saved (is_pulled pulled) cache.pool; queue = queue_after rules cache.queue [] pulled }

-- An eviction, once the page has left the pool.

abbrev pub must_be_pushed : Queue → PoolPage → Bool
must_be_pushed queue own = own.changed || not (has_frame queue own.page)

abbrev pub after_eviction : Rules → PoolPage → Cache → Cache
after_eviction rules own cache = if must_be_pushed cache.queue own then push_evicted rules own cache else cache

-- the eviction of the coldest page
abbrev pub evict_first : Rules → List PoolPage → Cache → Cache
evict_first rules [] cache = cache
evict_first rules (coldest ∷ warmer) cache = after_eviction rules coldest (record cache { pool = reverse warmer })

abbrev pub evict_coldest : Rules → Cache → Cache
evict_coldest rules cache = evict_first rules (reverse cache.pool) cache

-- A touch.

-- whether a page is to come into a pool that has no room for it
abbrev pub lacks_room : Rules → ℕ → Cache → Bool
lacks_room rules page cache = not (holds cache.pool page) && nat_le rules.pages (length cache.pool)

abbrev pub with_room : Rules → ℕ → Cache → Cache
with_room rules page cache = if lacks_room rules page cache then evict_coldest rules cache else cache

-- The page comes to the front. Where it wasn't in the pool it is read from its last frame, if it has one, and is
-- unchanged.
abbrev pub in_front : ℕ → Bool → Cache → Cache
in_front page change cache = record {
  pool = record { page = page; changed = is_changed cache.pool page || change }
      ∷ without (λ other. other == page) cache.pool;
  queue = if holds cache.pool page then cache.queue else with_read page cache.queue;
}

abbrev pub touched : Rules → ℕ → Bool → Cache → Cache
touched rules page change cache = in_front page change (with_room rules page cache)

-- whether a touch of a page that isn't in the pool finds it in the queue, and whether it misses it there
abbrev pub finds : Rules → ℕ → Cache → Bool
finds rules page cache = not (holds cache.pool page) && has_frame (with_room rules page cache).queue page

abbrev pub misses : Rules → ℕ → Cache → Bool
misses rules page cache = not (holds cache.pool page) && not (has_frame (with_room rules page cache).queue page)

-- A flush. Each push saves at least one changed page, so as many pushes as the pool has pages are enough.

abbrev pub wants_flush : Cache → Bool
wants_flush cache = list_any (λ p. p.changed) cache.pool

abbrev pub flushed_by : ℕ → Rules → Cache → Cache
flushed_by zero rules cache = cache
flushed_by (suc pushes) rules cache =
    if wants_flush cache then flushed_by pushes rules (push_changed rules cache) else cache

abbrev pub flushed : Rules → Cache → Cache
flushed rules cache = flushed_by (length cache.pool) rules cache

-- What is asked of the cache, one by one.

abbrev pub apply_op : Rules → CacheOp → Cache → Cache
apply_op rules (touch page change) cache = touched rules page change cache
apply_op rules flush cache = flushed rules cache

abbrev pub after_works : Rules → List CacheOp → Cache → Cache
after_works rules [] cache = cache
after_works rules (work ∷ works) cache = after_works rules works (apply_op rules work cache)

-- a run begins with an empty pool, and with no frame referenced
abbrev pub unread : Frame → Frame
unread frame = record frame { referenced = false }

abbrev pub opened : Queue → Cache
opened queue = record { pool = []; queue = record queue { groups = map (map unread) queue.groups } }

-- What is written to the disk.

-- a frame that is staged: the number of its group, its place there, and its page
pub record Staged : Type 0 where
  pub group : ℕ
  pub index : ℕ
  pub page : ℕ

abbrev pub staged_in_push : Rules → Queue → List Staged
staged_in_push rules queue = map (λ f. record { group = queue.first; index = f.0; page = f.1.page })
    (staged_of rules.chances (leaving rules queue))

abbrev pub staged_in_eviction : Rules → List PoolPage → Queue → List Staged
staged_in_eviction rules [] queue = []
staged_in_eviction rules (coldest ∷ warmer) queue =
    if must_be_pushed queue coldest then staged_in_push rules queue else []

abbrev pub staged_in_flush : ℕ → Rules → Cache → List Staged
staged_in_flush zero rules cache = []
staged_in_flush (suc pushes) rules cache =
    if wants_flush cache then staged_in_push rules cache.queue
    ++ staged_in_flush pushes rules (push_changed rules cache) else []

-- what one piece of work stages, the frame that is staged first in front
abbrev pub staged_by : Rules → CacheOp → Cache → List Staged
staged_by rules (touch page change) cache =
    if lacks_room rules page cache then staged_in_eviction rules (reverse cache.pool) cache.queue else []
staged_by rules flush cache = staged_in_flush (length cache.pool) rules cache

abbrev pub staged_by_works : Rules → List CacheOp → Cache → List Staged
staged_by_works rules [] cache = []
staged_by_works rules (work ∷ works) cache =
    staged_by rules work cache ++ staged_by_works rules works (apply_op rules work cache)

-- The listing: the frames in the order of the queue, then the pool, the front first.

abbrev pub frame_lines : ℕ → ℕ → List Mark → List CacheLine
frame_lines group index [] = []
frame_lines group index (mark ∷ behind) = line.Frame group index mark.page mark.valid mark.dirty mark.referenced
    ∷ frame_lines group (index + 1) behind

abbrev pub group_lines : ℕ → List (List Mark) → List CacheLine
group_lines group [] = []
group_lines group (frames ∷ later) = frame_lines group 0 frames ++ group_lines (group + 1) later

abbrev pub listing : Cache → List CacheLine
listing cache = group_lines cache.queue.first (marks cache.queue) ++ map (λ p. line.Pool p.page p.changed) cache.pool
