-- Three page caches over a list of touches, and what each of them counts.
use Rattle.std.specs.Prelude.{◌≡◌, ℕ, ◌+◌, ◌-◌, ◌*◌, Bool, true, false, ◌&&◌, List, [], ◌∷◌, length, reverse}
use Rattle.record_model.specs.Touches.{touch}
use Rattle.second_chance.specs.Queue.{Queue}
use Rattle.second_chance.specs.Machine.{Rules, PoolPage, Cache, holds, must_be_pushed, lacks_room, touched, finds}
use Rattle.second_chance.specs.Machine.{misses, staged_by}
use Rattle.policy_sim.specs.declared.policy.Policy.{Policy}
use Rattle.policy_sim.specs.declared.policy.Policy.TheVariants.{Fifo, Group, Chance}
use Rattle.policy_sim.specs.declared.counts.Counts.{Counts}

-- The rules of the cache machine under a policy, on a flash of so many groups, of which one stays free, and with a pool
-- of so many pages. Where nothing is pulled each group has one frame, so as many frames are as many groups.
abbrev pub rules_of_policy : Policy → ℕ → ℕ → Rules
rules_of_policy Fifo groups pages = record { pages = pages; groups = 8 * (groups - 1); chances = false; pulls = false }
rules_of_policy Group groups pages = record { pages = pages; groups = groups - 1; chances = false; pulls = true }
rules_of_policy Chance groups pages = record { pages = pages; groups = groups - 1; chances = true; pulls = true }

-- What a touch counts.

abbrev pub one_where : Bool → ℕ
one_where true = 1
one_where false = 0

-- whether the eviction of the coldest page is a push, of a pool with the coldest page in front
abbrev pub eviction_pushes : List PoolPage → Queue → Bool
eviction_pushes [] queue = false
eviction_pushes (coldest ∷ warmer) queue = must_be_pushed queue coldest

abbrev pub pushes : Rules → ℕ → Cache → Bool
pushes rules page cache = lacks_room rules page cache && eviction_pushes (reverse cache.pool) cache.queue

-- The page is in the pool, or it is found in the queue after the eviction that the touch makes, or neither.
abbrev pub made_by : Rules → ℕ → Bool → Cache → Counts
made_by rules page change cache = record {
  touches = 1;
  pool = one_where (holds cache.pool page);
  flash = one_where (finds rules page cache);
  disk = one_where (misses rules page cache);
  staged = length (staged_by rules (touch page change) cache);
  pushed = one_where (pushes rules page cache);
}

abbrev pub sum_of : Counts → Counts → Counts
sum_of a b = record {
  touches = a.touches + b.touches;
  pool = a.pool + b.pool;
  flash = a.flash + b.flash;
  disk = a.disk + b.disk;
  staged = a.staged + b.staged;
  pushed = a.pushed + b.pushed;
}

abbrev pub no_counts : Counts
no_counts = record { touches = 0; pool = 0; flash = 0; disk = 0; staged = 0; pushed = 0 }

-- a machine, with what it has counted
pub record State : Type 0 where
  pub rules : Rules
  pub cache : Cache
  pub counts : Counts

abbrev pub blank : Cache
blank = record { pool = []; queue = record { first = 0; groups = [] } }

abbrev pub start : Policy → ℕ → ℕ → State
start kind groups pages = record { rules = rules_of_policy kind groups pages; cache = blank; counts = no_counts }

abbrev pub after_touch : State → ℕ → Bool → State
after_touch s page change = record {
  rules = s.rules;
  cache = touched s.rules page change s.cache;
  counts = sum_of s.counts (made_by s.rules page change s.cache);
}

-- touches, one after the other: each a page, and whether it is changed
abbrev pub after_touches : State → List (ℕ × Bool) → State
after_touches s [] = s
after_touches s (t ∷ touches) = after_touches (after_touch s t.0 t.1) touches

-- the counts of a policy's machine after a list of touches
abbrev pub machine_counts : Policy → ℕ → ℕ → List (ℕ × Bool) → Counts
machine_counts kind groups pages touches = (after_touches (start kind groups pages) touches).counts

-- a state is that of a policy's machine after these touches
abbrev pub IsAfter : Policy → ℕ → ℕ → List (ℕ × Bool) → State → Type 0
IsAfter kind groups pages touches s = s ≡ after_touches (start kind groups pages) touches
