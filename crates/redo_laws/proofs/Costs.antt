-- What work costs the cache: the groups that it appends, and the pages that it reads.
use Rattle.redo_laws.proofs.Citing.{◌≡◌, ℕ, ◌+◌, ◌≤◌, Bool, List, [], ◌∷◌, ◌++◌, arith, refl, append_assoc, ◌∙◌, if◌then◌else◌, pushes, rules, CacheOp, touch, flush, next_group, finds_in, misses_in, NumbersRise, ReadsFor, Rules, Cache, with_room, touched, apply_op, after_works, staged_by_works, State}
use Rattle.second_chance.proofs.GroupCounts.{front_next}
use Rattle.std_lemmas.proofs.Bools.{or_true}
use Rattle.page_store.specs.Laws.{TouchThenChange}
use Rattle.page_store.proofs.Numbers.{first_next, flushed_next}

-- Work after work.

-- work after work
pub ops_compose : (rules : Rules) (first later : List CacheOp) (cache : Cache) → after_works rules (first ++ later) cache ≡ after_works rules later (after_works rules first cache)
ops_compose rules [] later cache = refl
ops_compose rules (work ∷ works) later cache = ops_compose rules works later (apply_op rules work cache)

pub staged_add_up : (rules : Rules) (first later : List CacheOp) (cache : Cache) → staged_by_works rules (first ++ later) cache ≡ staged_by_works rules first cache ++ staged_by_works rules later (after_works rules first cache)
staged_add_up rules [] later cache = grind (arith)
staged_add_up rules (work ∷ works) later cache = grind (arith, append_assoc, (staged_add_up rules works later (apply_op rules work cache)))

finds_add_up : (rules : Rules) (first later : List CacheOp) (cache : Cache) → finds_in rules (first ++ later) cache ≡ finds_in rules first cache + finds_in rules later (after_works rules first cache)
finds_add_up rules [] later cache = omega arith
finds_add_up rules (work ∷ works) later cache = omega (arith, finds_add_up rules works later (apply_op rules work cache))

misses_add_up : (rules : Rules) (first later : List CacheOp) (cache : Cache) → misses_in rules (first ++ later) cache ≡ misses_in rules first cache + misses_in rules later (after_works rules first cache)
misses_add_up rules [] later cache = omega arith
misses_add_up rules (work ∷ works) later cache = omega (arith, misses_add_up rules works later (apply_op rules work cache))

-- Law: work adds up, and so do the pages that it reads; the numbers of the groups that it appends never fall. So what
-- was read for some work was read for it with more behind it.
pub reads_add_up : (rules : Rules) (first later : List CacheOp) (cache : Cache) (old mid new : State) → ReadsFor rules first cache old mid → ReadsFor rules later (after_works rules first cache) mid new → ReadsFor rules (first ++ later) cache old new
reads_add_up rules first later cache old mid new one two = grind (arith, ops_compose, finds_add_up, misses_add_up)

-- a touch that is to change the page is one without, and then the change
pub touch_then_change : TouchThenChange
touch_then_change rules page cache = grind (arith, or_true)

-- The numbers of groups.

room_next : (rules : Rules) (page : ℕ) (cache : Cache) → 1 ≤ rules.groups → next_group (with_room rules page cache) ≡ next_group cache + (if pushes rules page cache then 1 else 0)
room_next rules page cache some = grind (arith, first_next)

-- a touch appends a group where it pushes
pub touched_next : (rules : Rules) (page : ℕ) (change : Bool) (cache : Cache) → 1 ≤ rules.groups → next_group (touched rules page change cache) ≡ next_group cache + (if pushes rules page cache then 1 else 0)
touched_next rules page change cache some = front_next page change (with_room rules page cache) ∙ room_next rules page cache some

work_next : (rules : Rules) (work : CacheOp) (cache : Cache) → 1 ≤ rules.groups → next_group cache ≤ next_group (apply_op rules work cache)
work_next rules (touch page change) cache some = omega (arith, touched_next rules page change cache some)
work_next rules flush cache some = flushed_next rules cache some

pub numbers_rise : NumbersRise
numbers_rise rules [] cache some = omega arith
numbers_rise rules (work ∷ works) cache some = omega (arith, work_next rules work cache some, numbers_rise rules works (apply_op rules work cache) some)

pub more_next : (rules : Rules) (first later : List CacheOp) (cache : Cache) → 1 ≤ rules.groups → next_group (after_works rules first cache) ≤ next_group (after_works rules (first ++ later) cache)
more_next rules first later cache some = grind (arith, ops_compose, numbers_rise)

-- what was read for the first of some work was read for all of it
pub reads_for_more : (rules : Rules) (first later : List CacheOp) (cache : Cache) (old new : State) → 1 ≤ rules.groups → ReadsFor rules first cache old new → ReadsFor rules (first ++ later) cache old new
reads_for_more rules first later cache old new some reads = grind (arith, more_next, finds_add_up, misses_add_up)
