-- The numbers of the groups that a flush appends.
use Rattle.std.proofs.lemmas.Grind.{common_steps}
use Rattle.page_store.proofs.Names.{◌≡◌, ℕ, zero, suc, ◌+◌, ◌≤◌, true, ◌&&◌, List, length, arith, if◌then◌else◌, next_group, cache_of, rules_for, is_full as has_no_room, first_pushed, is_pushed, with_way, PageStore, changed_next, evicted_next, FlushGoesOn, Rules, PoolPage, Cache, must_be_pushed, after_eviction, evict_first, push_changed, flushed_by, flushed, wants_flush}

-- a flush takes no group's number back
flushed_by_next : (pushes : ℕ) (rules : Rules) (cache : Cache) → 1 ≤ rules.groups → next_group cache ≤ next_group (flushed_by pushes rules cache)
flushed_by_next zero rules cache some = omega arith
flushed_by_next (suc pushes) rules cache some = grind (arith, common_steps, changed_next, (flushed_by_next pushes rules (push_changed rules cache) some))

pub flushed_next : (rules : Rules) (cache : Cache) → 1 ≤ rules.groups → next_group cache ≤ next_group (flushed rules cache)
flushed_next rules cache some = flushed_by_next (length cache.pool) rules cache some

-- and where a page is changed it appends one at least
pub flushed_more : FlushGoesOn → (rules : Rules) (cache : Cache) → 1 ≤ rules.groups → wants_flush cache ≡ true → next_group cache + 1 ≤ next_group (flushed rules cache)
flushed_more goes_on rules cache some wants = grind (arith, common_steps, flushed_next, changed_next)

-- An eviction appends one group where it pushes.

after_next : (rules : Rules) (own : PoolPage) (cache : Cache) → 1 ≤ rules.groups →
    next_group (after_eviction rules own cache) ≡ next_group cache + (if must_be_pushed cache.queue own then 1 else 0)
after_next rules own cache some = grind (arith, common_steps, evicted_next)

pub first_next : (rules : Rules) (pool : List PoolPage) (cache : Cache) → 1 ≤ rules.groups →
    next_group (evict_first rules pool cache) ≡ next_group cache + (if first_pushed cache.queue pool then 1 else 0)
first_next rules pool cache h = grind (arith, common_steps, after_next)

pub way_next : (store : PageStore) → 1 ≤ (rules_for store).groups → next_group (with_way store) ≡ next_group (cache_of store) + (if (has_no_room store && is_pushed (cache_of store)) then 1 else 0)
way_next store some = grind (arith, common_steps, first_next)
