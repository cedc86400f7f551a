-- The page store as the cache machine.
use Rattle.std.specs.Prelude.{ℕ, nat_le, Bool, false, true, ◌&&◌, List, [], ◌∷◌, length, map, reverse}
use Rattle.std.specs.Prelude.{if◌then◌else◌}
use Rattle.buffer_pool.specs.declared.frame.Frame.{Frame}
use Rattle.second_chance.specs.Queue.{Queue}
use Rattle.second_chance.specs.Machine.{Rules, rules_of, PoolPage, Cache, must_be_pushed, lacks_room, evict_coldest}
use Rattle.page_store.specs.declared.store.PageStore.{PageStore}
-- the number of the group that the next push appends
pub use Rattle.second_chance.specs.Machine.{next_group}

-- what the machine knows of a page in the pool
abbrev pub pool_page : Frame → PoolPage
pool_page frame = record { page = frame.page; changed = frame.changed }

-- the state of the machine
abbrev pub cache_of : PageStore → Cache
cache_of store = record { pool = map pool_page store.pool.frames; queue = store.flash.directory }

abbrev pub rules : PageStore → Rules
rules store = rules_of store.pool.size store.flash.geometry.groups

-- whether the pool has as many pages as it may have
abbrev pub is_full : PageStore → Bool
is_full store = nat_le store.pool.size (length store.pool.frames)

-- the machine once there is room for one page more
abbrev pub with_way : PageStore → Cache
with_way store = if is_full store then evict_coldest (rules store) (cache_of store) else cache_of store

-- the machine with the page in front changed
abbrev pub changed_front : List PoolPage → List PoolPage
changed_front [] = []
changed_front (front ∷ pool) = record front { changed = true } ∷ pool

abbrev pub with_change : Cache → Cache
with_change cache = record cache { pool = changed_front cache.pool }

-- whether an eviction of the coldest page pushes it, and whether a touch does
abbrev pub first_pushed : Queue → List PoolPage → Bool
first_pushed queue [] = false
first_pushed queue (coldest ∷ warmer) = must_be_pushed queue coldest

abbrev pub is_pushed : Cache → Bool
is_pushed cache = first_pushed cache.queue (reverse cache.pool)

abbrev pub pushes : Rules → ℕ → Cache → Bool
pushes r page cache = lacks_room r page cache && is_pushed cache
