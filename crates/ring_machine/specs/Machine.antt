-- The rings of the devices as a machine: which unit each piece of work appends, and which ring it finds at its end.
use Rattle.std.specs.Prelude.{ℕ, ◌+◌, ◌^◌, true, ◌||◌, nat_lt, List, [], ◌∷◌, map, filter, reverse}
use Rattle.std.specs.Prelude.{Option, Some, None, if◌then◌else◌}
use Rattle.std.specs.Option.{option_or}
use Rattle.site.specs.declared.outside.Dev.{Dev}
use Rattle.site.specs.declared.outside.Dev.TheVariants.{Log, Flash}
use Rattle.record_model.specs.Touches.{CacheOp, touch, flush}
use Rattle.second_chance.specs.Plans.{pulled_at_eviction}
use Rattle.second_chance.specs.Queue.{Queue}
use Rattle.second_chance.specs.Machine.{Rules, PoolPage, Cache, next_group}
use Rattle.second_chance.specs.Machine.{pool_mark, leaving, must_be_pushed, lacks_room}
use Rattle.second_chance.specs.Machine as cache
use Rattle.ring_machine.specs.Tail.{Tail, with_record, forced, before_push}

-- the page cache, the log's tail, and the number of the next master unit
pub record Machine : Type 0 where
  pub cache : Cache
  pub tail : Tail
  pub masters : ℕ

-- What is asked of log and cache: a touch or a flush; a record of so many octets is logged, on no page or on the page
-- in front, which it changes; the log is forced; a master unit is saved.
pub data RingOp : Type 0 where
  cached : (work : CacheOp) → RingOp
  logged : (octets : ℕ) → RingOp
  changed : (octets page : ℕ) → RingOp
  force : RingOp
  save : RingOp

-- The pages that are pushed: an evicted page and those that it pulls, where it must be pushed; and all changed ones by
-- a flush.
abbrev pub pushed_with : Rules → Queue → List PoolPage → List ℕ
pushed_with rules queue [] = []
pushed_with rules queue (coldest ∷ warmer) =
    if must_be_pushed queue coldest then coldest.page ∷ map (λ p. p.page)
    (pulled_at_eviction rules.pulls rules.chances (leaving rules queue) (map (pool_mark queue) warmer)) else []

abbrev pub pushed_by : Rules → CacheOp → Cache → List ℕ
pushed_by rules (touch page change) cache =
    if lacks_room rules page cache then pushed_with rules cache.queue (reverse cache.pool) else []
pushed_by rules flush cache = map (λ p. p.page) (filter (λ p. p.changed) cache.pool)

-- the page in front counts as changed
abbrev pub front_changed : List PoolPage → List PoolPage
front_changed [] = []
front_changed (front ∷ pool) = record front { changed = true } ∷ pool

-- one piece of work, and some of it
abbrev pub apply_op : Rules → RingOp → Machine → Machine
apply_op rules (cached work) m = record m {
  cache = cache.apply_op rules work m.cache;
  tail = before_push (pushed_by rules work m.cache) m.tail;
}
apply_op rules (logged octets) m = record m { tail = with_record octets [] m.tail }
apply_op rules (changed octets page) m = record m {
  cache = record m.cache { pool = front_changed m.cache.pool };
  tail = with_record octets (page ∷ []) m.tail;
}
apply_op rules force m = record m { tail = forced m.tail }
apply_op rules save m = record m { masters = m.masters + 1 }

abbrev pub after_all : Rules → List RingOp → Machine → Machine
after_all rules [] m = m
after_all rules (work ∷ works) m = after_all rules works (apply_op rules work m)

-- the device on which a unit has a number that its ring doesn't have: the log is sealed before a group is appended
abbrev pub past_end : Machine → Option Dev
past_end m = if nat_lt (2 ^ 40) m.tail.next || nat_lt (2 ^ 40) m.masters then Some Log
    else if nat_lt (2 ^ 40) (next_group m.cache) then Some Flash else None

-- the device of the first ring that the work is to append to at its end
abbrev pub first_worn : Rules → List RingOp → Machine → Option Dev
first_worn rules [] m = None
first_worn rules (work ∷ works) m =
    option_or (past_end (apply_op rules work m)) (first_worn rules works (apply_op rules work m))
