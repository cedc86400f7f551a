-- The groups that work pushes, counted.
use Rattle.std.proofs.lemmas.Grind.{common_steps}
use Rattle.second_chance.proofs.Names.{rules, ◌≡◌, ℕ, zero, suc, ◌+◌, ◌≤◌, ◌==◌, Bool, true, false, cond, List, [], ◌∷◌, ◌++◌, length, reverse, refl, arith, leb-true, length-drop, reverse-append, if◌then◌else◌, CacheOp, touch, flush, groups_for, groups_for_all, FlushPushesChanged, NearlyAllArePushed, TouchPushesOne, WorkPushesFew, changed_count, Rules, PoolPage, Cache, is_changed, without, is_full, is_pulled, leaving, pool_marks, push_evicted, must_be_pushed, after_eviction, evict_first, with_room, in_front, touched, wants_flush, push_changed, flushed_by, flushed, apply_op, next_group, pulled_at_eviction, Queue, pushed, Frame}
use Rattle.std.proofs.lemmas.List.{length-append}
use Rattle.second_chance.proofs.Flushes.{count_cons, push_saves}
use Rattle.second_chance.proofs.Unread.{length-groups_read}

-- A push appends one group.

full_has_one : (rules : Rules) (queue : Queue) → 1 ≤ rules.groups → is_full rules queue ≡ true → 1 ≤ length queue.groups
full_has_one rules queue some full = omega (arith, some, leb-true rules.groups (length queue.groups) full)

one_appended : (leaves : Bool) (group : List Frame) (queue : Queue) → (leaves ≡ true → 1 ≤ length queue.groups) →
    (pushed leaves group queue).first + length (pushed leaves group queue).groups ≡ queue.first + length queue.groups + 1
one_appended x0 group queue some = grind (arith, common_steps, length-append, length-drop)

pub changed_next : (rules : Rules) (cache : Cache) → 1 ≤ rules.groups → next_group (push_changed rules cache) ≡ next_group cache + 1
changed_next rules cache some = one_appended (is_full rules cache.queue) _ cache.queue (full_has_one rules cache.queue some)

pub evicted_next : (rules : Rules) (own : PoolPage) (cache : Cache) → 1 ≤ rules.groups → next_group (push_evicted rules own cache) ≡ next_group cache + 1
evicted_next rules own cache some = one_appended (is_full rules cache.queue) _ cache.queue (full_has_one rules cache.queue some)

-- How many pages are changed.

count_append : (xs ys : List PoolPage) → changed_count (xs ++ ys) ≡ changed_count xs + changed_count ys
count_append [] ys = omega arith
count_append (p ∷ xs) ys = omega (arith, count_append xs ys, count_cons p xs, count_cons p (xs ++ ys))

count_reverse : (xs : List PoolPage) → changed_count (reverse xs) ≡ changed_count xs
count_reverse [] = refl
count_reverse (p ∷ xs) = grind (arith, common_steps, changed_count, reverse-append, count_append, count_cons, (count_reverse xs))

-- pages that leave the pool
count_without : (leaves : ℕ → Bool) (pool : List PoolPage) → changed_count (without leaves pool) ≤ changed_count pool
count_without leaves [] = omega arith
count_without leaves (p ∷ pool) = grind (arith, count_cons, (count_without leaves pool))

abbrev beside : ℕ → List PoolPage → List PoolPage
beside page pool = without (λ other. other == page) pool

-- a page that leaves as changed is one less
count_own : (page : ℕ) (pool : List PoolPage) → is_changed pool page ≡ true → changed_count (beside page pool) + 1 ≤ changed_count pool
count_own page [] some = absurd cc
count_own page (p ∷ pool) some = grind (arith, count_without, count_cons, (count_own page pool))

-- An eviction: the group that it pushes, and the changed pages that are left.

evicted_few : (rules : Rules) (own : PoolPage) (cache : Cache) → 1 ≤ rules.groups →
    (next_group (after_eviction rules own cache) ≤ next_group cache + 1) × (changed_count (after_eviction rules own cache).pool ≤ changed_count cache.pool)
evicted_few rules own cache some = grind (arith, common_steps, must_be_pushed, next_group, push_evicted, changed_count, evicted_next, count_without, is_pulled, pulled_at_eviction, leaving, pool_marks)

first_few : (rules : Rules) (pool : List PoolPage) (cache : Cache) → 1 ≤ rules.groups → changed_count pool ≡ changed_count cache.pool →
    (next_group (evict_first rules pool cache) ≤ next_group cache + 1) × (changed_count (evict_first rules pool cache).pool ≤ changed_count cache.pool)
first_few rules [] cache some same = (omega arith, omega arith)
first_few rules (coldest ∷ warmer) cache some same =
    let rest : Cache = record cache { pool = reverse warmer } in
    let few = evicted_few rules coldest rest some in
    let next : next_group rest ≡ next_group cache = refl in
    (few.0, omega (arith, few.1, count_reverse warmer, count_cons coldest warmer, same))

room_few : (rules : Rules) (page : ℕ) (cache : Cache) → 1 ≤ rules.groups →
    (next_group (with_room rules page cache) ≤ next_group cache + 1) × (changed_count (with_room rules page cache).pool ≤ changed_count cache.pool)
room_few rules page cache some = grind (arith, first_few, count_reverse)

-- A touch.

pub front_next : (page : ℕ) (change : Bool) (cache : Cache) → next_group (in_front page change cache) ≡ next_group cache
front_next page change cache = grind (arith, length-groups_read)

-- only a change makes one more page changed
front_changed : (page : ℕ) (change : Bool) (cache : Cache) → changed_count (in_front page change cache).pool ≤ changed_count cache.pool + cond change 1 0
front_changed page change cache = grind (arith, count_own, count_without, count_cons)

touched_few : (rules : Rules) (page : ℕ) (change : Bool) (cache : Cache) → 1 ≤ rules.groups →
    (next_group (touched rules page change cache) ≤ next_group cache + 1) × (changed_count (touched rules page change cache).pool ≤ changed_count cache.pool + cond change 1 0)
touched_few rules page change cache some =
    let room = room_few rules page cache some in
    let front = with_room rules page cache in
    (omega (arith, room.0, front_next page change front), omega (arith, room.1, front_changed page change front))

pub touch_pushes_one : TouchPushesOne
touch_pushes_one rules page change cache some = (touched_few rules page change cache some).0

-- A flush.

flushed_by_few : (pushes : ℕ) (rules : Rules) (cache : Cache) → 1 ≤ rules.groups →
    next_group (flushed_by pushes rules cache) + changed_count (flushed_by pushes rules cache).pool ≤ next_group cache + changed_count cache.pool
flushed_by_few zero rules cache some = omega arith
flushed_by_few (suc pushes) rules cache some = by (wants_flush cache) refl (flushed_by_few pushes rules (push_changed rules cache) some)
  where
    by : (b : Bool) → wants_flush cache ≡ b →
        next_group (flushed_by pushes rules (push_changed rules cache)) + changed_count (flushed_by pushes rules (push_changed rules cache)).pool ≤ next_group (push_changed rules cache) + changed_count (push_changed rules cache).pool →
        next_group (if b then flushed_by pushes rules (push_changed rules cache) else cache) + changed_count (if b then flushed_by pushes rules (push_changed rules cache) else cache).pool ≤ next_group cache + changed_count cache.pool
    by true wants later = omega (arith, later, changed_next rules cache some, push_saves rules cache wants)
    by false none later = omega arith

flushed_few : (rules : Rules) (cache : Cache) → 1 ≤ rules.groups → next_group (flushed rules cache) + changed_count (flushed rules cache).pool ≤ next_group cache + changed_count cache.pool
flushed_few rules cache some = flushed_by_few (length cache.pool) rules cache some

pub flush_pushes_changed : FlushPushesChanged
flush_pushes_changed rules cache some = omega (arith, flushed_few rules cache some)

-- All work.

work_few : (rules : Rules) (work : CacheOp) (cache : Cache) → 1 ≤ rules.groups →
    next_group (apply_op rules work cache) + changed_count (apply_op rules work cache).pool ≤ next_group cache + changed_count cache.pool + groups_for work
work_few rules (touch page change) cache some = grind (arith, touched_few)
work_few rules flush cache some = omega (arith, flushed_few rules cache some)

pub work_pushes_few : WorkPushesFew
work_pushes_few rules [] cache some = omega arith
work_pushes_few rules (work ∷ works) cache some = omega (arith, work_few rules work cache some, work_pushes_few rules works (apply_op rules work cache) some)

-- Work after work.
pub groups_add_up : (first later : List CacheOp) → groups_for_all (first ++ later) ≡ groups_for_all first + groups_for_all later
groups_add_up [] later = omega arith
groups_add_up (work ∷ first) later = omega (arith, groups_add_up first later)

pub nearly_all_are_pushed : NearlyAllArePushed
nearly_all_are_pushed = record { most = refl; pushed = refl; saved = refl }
