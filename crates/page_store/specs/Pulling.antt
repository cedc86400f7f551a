-- Which pages of the pool a push takes.
use Rattle.std.specs.Prelude.{◌≡◌, ℕ, ◌-◌, false, List, [], ◌∷◌, length, filter, take, reverse, if◌then◌else◌}
use Rattle.buffer_pool.specs.declared.frame.Frame.{Frame}
use Rattle.buffer_pool.specs.Frames.{without}
use Rattle.second_chance.specs.declared.plan.PoolMark.{PoolMark}
use Rattle.second_chance.specs.Queue.{Queue}
use Rattle.second_chance.specs.Plans.{group_size, chances_of}
use Rattle.second_chance.specs.Machine.{Rules, leaving, pool_mark, must_be_pushed}
use Rattle.page_store.specs.declared.store.PageStore.{PageStore}
use Rattle.page_store.specs.Caching.{pool_page, rules}

-- what a plan knows of a page in the pool
abbrev pub mark_for : Queue → Frame → PoolMark
mark_for queue frame = pool_mark queue (pool_page frame)

-- and of one that is changed or has no frame: it is as one without a frame
abbrev pub movable_mark : Frame → PoolMark
movable_mark frame = record { page = frame.page; changed = frame.changed; framed = false }

-- how many pages a group has room for beside its second chances
abbrev pub room_for_pages : Rules → Queue → ℕ
room_for_pages r queue = group_size - length (chances_of r.chances (leaving r queue))

-- the frames of all pages but these
abbrev pub without_all : List ℕ → List Frame → List Frame
without_all [] frames = frames
without_all (page ∷ pages) frames = without_all pages (without frames page)

-- Frames are left out: these are the frames of all pages but some.
pub record LeavesOut (old new : List Frame) : Type 0 where
  pub pages : List ℕ
  pub left : new ≡ without_all pages old

-- Of pages that stand with the coldest in front, those that are changed or have no frame.
abbrev pub movable : Queue → List Frame → List Frame
movable queue frames = filter (λ f. must_be_pushed queue (pool_page f)) frames

-- of the pages in the pool the coldest of these, as many as the push of an evicted page may pull
abbrev pub candidates : PageStore → List Frame
candidates store = take 7 (movable store.flash.directory (reverse store.pool.frames))

-- those that it pulls: as many as its group has room for beside the evicted page, where evictions pull at all
abbrev pub pulled_frames : Rules → Queue → List Frame → List Frame
pulled_frames r queue warmer =
    if r.pulls then take (group_size - 1 - length (chances_of r.chances (leaving r queue)))
    (movable queue warmer) else []

-- what is pulled from the pool of a store that the evicted page has left
abbrev pub pulled : PageStore → List Frame
pulled store = pulled_frames (rules store) store.flash.directory (reverse store.pool.frames)

-- The pages that an eviction pushes: the coldest one and those that are pulled with it, where that one is changed or
-- has no frame; else none.
abbrev pub evicted_of : Rules → Queue → List Frame → List Frame
evicted_of r queue [] = []
evicted_of r queue (coldest ∷ warmer) =
    if must_be_pushed queue (pool_page coldest) then coldest ∷ pulled_frames r queue warmer else []

abbrev pub evicted_frames : PageStore → List Frame
evicted_frames store = evicted_of (rules store) store.flash.directory (reverse store.pool.frames)
