-- What the steps of a touch do to a machine.
use Rattle.std.specs.Prelude.{◌≡◌, ℕ, ◌+◌, ◌≤◌, Bool, true, false, [], nat_le, length, reverse, if◌then◌else◌}
use Rattle.second_chance.specs.Machine.{Rules, PoolPage, Cache, push_evicted, evict_coldest, touched, staged_in_push}
use Rattle.second_chance.specs.Machine.{staged_in_eviction}
use Rattle.policy_sim.specs.declared.counts.Counts.{Counts}
use Rattle.policy_sim.specs.declared.machine.Machine.{Machine}
use Rattle.policy_sim.specs.declared.machine.Pushed.{Pushed}
use Rattle.policy_sim.specs.Machines.{eviction_pushes, made_by}
use Rattle.policy_sim.specs.Bounds.{IsBounded}
use Rattle.policy_sim.specs.Pools.{pages_of}
use Rattle.policy_sim.specs.Listing.{IsPool, IsListed}

abbrev pub cache_of : Machine → Cache
cache_of m = record { pool = pages_of m.pool; queue = m.queue }

abbrev pub rules_in : Machine → Rules
rules_in m = record { pages = m.pages; groups = m.groups; chances = m.taking.chances; pulls = m.taking.pulls }

-- the number of the group that is pushed next
abbrev pub next_group : Machine → ℕ
next_group m = m.queue.first + length m.queue.groups

-- where pushes take pages from the pool, its list has those that they may take
pub record IsOrdered (m : Machine) : Type 0 where
  pub pool : IsPool m.pool
  pub listed : m.taking.pulls ≡ true → IsListed m.queue m.pool

-- a machine with a queue of at least one group, which has pushed so few groups that their numbers fit
pub record IsUsable (m : Machine) : Type 0 where
  pub some : 1 ≤ m.groups
  pub number : next_group m ≤ 1000000
  pub ordered : IsOrdered m

-- what no step changes, and how many groups one step pushes at most
pub record StaysIn (old new : Machine) : Type 0 where
  pub rules : rules_in new ≡ rules_in old
  pub groups : new.groups ≡ old.groups
  pub number : next_group new ≤ next_group old + 1
  pub ordered : IsOrdered new

pub record HasPushed (old new : Machine) (own : PoolPage) (staged : ℕ) : Type 0 where
  pub cache : cache_of new ≡ push_evicted (rules_in old) own (cache_of old)
  pub staged_are : staged ≡ length (staged_in_push (rules_in old) old.queue)
  pub few : staged ≤ 8
  pub stays : StaysIn old new

pub record HasEvicted (old new : Machine) (made : Pushed) : Type 0 where
  pub cache : cache_of new ≡ evict_coldest (rules_in old) (cache_of old)
  pub pushed : made.pushed ≡ eviction_pushes (reverse (pages_of old.pool)) old.queue
  pub staged : made.staged ≡ length (staged_in_eviction (rules_in old) (reverse (pages_of old.pool)) old.queue)
  pub few : made.staged ≤ 8
  pub stays : StaysIn old new

-- Room is made for a page that isn't in the pool.
abbrev pub is_crowded : Machine → Bool
is_crowded m = nat_le m.pages (length (pages_of m.pool))

pub record HasRoom (old new : Machine) (made : Pushed) : Type 0 where
  pub cache : cache_of new ≡ (if is_crowded old then evict_coldest (rules_in old) (cache_of old) else cache_of old)
  pub pushed : made.pushed ≡ (if is_crowded old then eviction_pushes (reverse (pages_of old.pool)) old.queue else false)
  pub staged : made.staged ≡ length
      (if is_crowded old then staged_in_eviction (rules_in old) (reverse (pages_of old.pool)) old.queue else [])
  pub few : made.staged ≤ 8
  pub stays : StaysIn old new

pub record HasTouched (old new : Machine) (page : ℕ) (change : Bool) (made : Counts) : Type 0 where
  pub cache : cache_of new ≡ touched (rules_in old) page change (cache_of old)
  pub made_are : made ≡ made_by (rules_in old) page change (cache_of old)
  pub one : made.touches ≡ 1
  pub bounded : IsBounded made
  pub stays : StaysIn old new
