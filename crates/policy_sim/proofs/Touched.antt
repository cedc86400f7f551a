-- A touch, step by step.
use Rattle.std.proofs.lemmas.Grind.{reverse_onto, common_steps}
use Rattle.policy_sim.proofs.Names.{rules, arith, ◌≡◌, ℕ, ◌+◌, ◌==◌, Bool, false, not, ◌||◌, nat_le, cond, List, [], ◌∷◌, ◌++◌, length, filter, reverse, refl, ap, ◌∙◌, if◌then◌else◌, or_parts, reverse-append, reverse-reverse, list_any, one_where, eviction_pushes, made_by, Counts, length-groups_read, Rules, PoolPage, Cache, holds, is_changed, without, evict_first, evict_coldest, after_eviction, staged_in_push, with_room, touched, must_be_pushed, staged_in_eviction, Queue, has_frame, with_read}
use Rattle.std.proofs.lemmas.List.Folds.{list_any-append}

-- A page that isn't in the pool isn't there after an eviction.

any_filter : {X : Type 0} (test keep : X → Bool) (xs : List X) → list_any test xs ≡ false → list_any test (filter keep xs) ≡ false
any_filter test keep [] none = refl
any_filter test keep (x ∷ xs) none = grind (arith, common_steps, or_parts, (any_filter test keep xs))

any_reverse : {X : Type 0} (test : X → Bool) (xs : List X) → list_any test xs ≡ false → list_any test (reverse xs) ≡ false
any_reverse test [] none = refl
any_reverse test (x ∷ xs) none = grind (arith, common_steps, or_parts, reverse_onto, list_any-append, (any_reverse test xs))

not_in_evicted : (rules : Rules) (page : ℕ) (colder : List PoolPage) (cache : Cache) → holds cache.pool page ≡ false → holds colder page ≡ false
    → holds (evict_first rules colder cache).pool page ≡ false
not_in_evicted rules page colder cache h h2 = grind (arith, common_steps, any_reverse, or_parts, any_filter)

pub not_in_room : (rules : Rules) (page : ℕ) (cache : Cache) → holds cache.pool page ≡ false
    → holds (evict_coldest rules cache).pool page ≡ false
not_in_room rules page cache none = not_in_evicted rules page (reverse cache.pool) cache none (any_reverse (λ p. p.page == page) cache.pool none)

-- the pool without its last page
pub reversed : (front : List PoolPage) (coldest : PoolPage) → reverse (front ++ coldest ∷ []) ≡ coldest ∷ reverse front
reversed front coldest = reverse-append front (coldest ∷ [])

-- The eviction of the coldest page, by the pool without it.
module _ (rules : Rules) (pool front : List PoolPage) (coldest : PoolPage) (queue : Queue) (split : pool ≡ front ++ coldest ∷ []) where
  colder : reverse pool ≡ coldest ∷ reverse front
  colder = ap reverse split ∙ reversed front coldest

  pub coldest_evicted : evict_coldest rules (record { pool = pool; queue = queue }) ≡ after_eviction rules coldest (record { pool = front; queue = queue })
  coldest_evicted = grind (arith, common_steps, colder, reverse-reverse)

  pub coldest_pushes : eviction_pushes (reverse pool) queue ≡ must_be_pushed queue coldest
  coldest_pushes = ap (λ (l : List PoolPage). eviction_pushes l queue) colder

  pub coldest_stages : staged_in_eviction rules (reverse pool) queue ≡ (if must_be_pushed queue coldest then staged_in_push rules queue else [])
  coldest_stages = ap (λ (l : List PoolPage). staged_in_eviction rules l queue) colder

-- A touch of a page that isn't in the pool.

-- the cache once there is room for a page that isn't there
abbrev pub room_in : Rules → Cache → Cache
room_in rules cache = cond (nat_le rules.pages (length cache.pool)) (evict_coldest rules cache) cache

room_is : (rules : Rules) (page : ℕ) (cache : Cache) → holds cache.pool page ≡ false → with_room rules page cache ≡ room_in rules cache
room_is rules page cache none = grind (arith, common_steps, nat_le)

pub still_none : (rules : Rules) (page : ℕ) (cache : Cache) → holds cache.pool page ≡ false → holds (room_in rules cache).pool page ≡ false
still_none rules page cache none = grind (arith, common_steps, nat_le, not_in_room)

abbrev pub fetched : ℕ → Bool → Cache → Cache
fetched page change cache = record {
  pool = record { page = page; changed = is_changed cache.pool page || change } ∷ without (λ other. other == page) cache.pool;
  queue = with_read page cache.queue;
}

pub missed_cache : (rules : Rules) (page : ℕ) (change : Bool) (cache new : Cache) → holds cache.pool page ≡ false → new ≡ room_in rules cache
    → fetched page change new ≡ touched rules page change cache
missed_cache rules page change cache new none is = grind (arith, common_steps, still_none, room_is)

abbrev pub counted : Bool → ℕ → Bool → Counts
counted found staged pushed = record { touches = 1; pool = 0; flash = one_where found; disk = one_where (not found); staged = staged; pushed = one_where pushed }

pub missed_counts : (rules : Rules) (page : ℕ) (change : Bool) (cache new : Cache) (found pushed : Bool) (staged : ℕ) → holds cache.pool page ≡ false
    → new ≡ room_in rules cache → found ≡ has_frame new.queue page
    → pushed ≡ cond (nat_le rules.pages (length cache.pool)) (eviction_pushes (reverse cache.pool) cache.queue) false
    → staged ≡ length (cond (nat_le rules.pages (length cache.pool)) (staged_in_eviction rules (reverse cache.pool) cache.queue) [])
    → counted found staged pushed ≡ made_by rules page change cache
missed_counts rules page change cache new found pushed staged none is found_is pushed_is staged_is = grind (arith, common_steps, nat_le, room_is)

pub next_read : (page : ℕ) (queue : Queue) → (with_read page queue).first + length (with_read page queue).groups ≡ queue.first + length queue.groups
next_read page queue = ap (λ n. queue.first + n) (length-groups_read page queue.groups)
