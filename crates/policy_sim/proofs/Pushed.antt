-- A push, by the plan for it.
use Rattle.std.proofs.lemmas.Grind.{common_steps}
use Rattle.policy_sim.proofs.Names.{rules, ◌≡◌, ℕ, zero, suc, ◌+◌, ◌-◌, ◌<◌, ◌≤◌, Bool, true, false, List, [], ◌∷◌, ◌++◌, length, get_or, nat_lt, take, map, filter, slice_get, Some, None, arith, refl, sym, ap, ◌∙◌, length-append, ltb-true, ltb-false, length-map, length-drop, take-take, filter_map-append, slice_get_read, Mark, is_movable, group_of, AreApart, EvictionIsPlanned, names, given_again, eviction_done, plan_for_eviction, Rules, PoolPage, Cache, without, is_full, leaving, pool_marks, push_evicted, staged_in_push, chances_of, staged_of, eviction_plan, Queue, frame_of, pushed, Frame, Plan, PoolMark}

-- The first seven candidates are enough for a plan.

filter_taken : (n : ℕ) (xs : List PoolMark) → filter is_movable (take n (filter is_movable xs)) ≡ take n (filter is_movable xs)
filter_taken zero xs = refl
filter_taken (suc n) [] = refl
filter_taken (suc n) (x ∷ xs) = grind (arith, common_steps, (filter_taken n xs), (filter_taken (suc n) xs))

abbrev plan_with : Bool → List Mark → List PoolMark → Plan
plan_with given front pulled = record {
  chances = map (λ f. f.0) (chances_of given front);
  staged = map (λ f. f.0) (staged_of given front);
  pulled = map (λ p. p.page) pulled;
}

pub seven_are_enough : (pulls given : Bool) (front : List Mark) (pool : List PoolMark)
    → eviction_plan pulls given front (take 7 (filter is_movable pool)) ≡ eviction_plan pulls given front pool
seven_are_enough false given front pool = refl
seven_are_enough true given front pool =
    let room : ℕ = 8 - 1 - length (chances_of given front) in
    ap (λ (l : List PoolMark). plan_with given front (take room l)) (filter_taken 7 pool)
    ∙ ap (plan_with given front) (take-take room 7 (filter is_movable pool) (omega arith))

-- The frames of the new group, one by one.

pub given_more : (front : List Mark) (places : List ℕ) (place : ℕ) (mark : Mark) → slice_get front place ≡ Some mark
    → given_again front (places ++ place ∷ []) ≡ given_again front places ++ frame_of mark.page mark.dirty ∷ []
given_more front places place mark is = grind (arith, common_steps, filter_map-append)

pub given_none : (front : List Mark) (places : List ℕ) (place : ℕ) → slice_get front place ≡ None → given_again front (places ++ place ∷ []) ≡ given_again front places ++ []
given_none front places place is = grind (arith, common_steps, filter_map-append)

-- What a push did is the machine's push.
pub record IsPlanned (rules : Rules) (own : PoolPage) (cache : Cache) (front : List Mark) (plan : Plan) (frames : List Frame) (full : Bool) : Type 0 where
  pub full_is : full ≡ is_full rules cache.queue
  pub front_is : front ≡ leaving rules cache.queue
  pub plan_is : plan ≡ eviction_plan rules.pulls rules.chances front (pool_marks cache)
  pub frames_are : frames ≡ group_of front plan own cache.pool
  pub apart : AreApart cache.pool

pub push_is : (rules : Rules) (own : PoolPage) (cache : Cache) (front : List Mark) (plan : Plan) (frames : List Frame) (full : Bool)
    → EvictionIsPlanned → IsPlanned rules own cache front plan frames full
    → record { pool = without (names plan.pulled) cache.pool; queue = pushed full frames cache.queue } ≡ push_evicted rules own cache
push_is rules own cache front plan frames full law p =
    let same_plan : plan ≡ plan_for_eviction rules cache =
    p.plan_is ∙ ap (λ marks. eviction_plan rules.pulls rules.chances marks (pool_marks cache)) p.front_is in
    ap (λ l. record { pool = without (names plan.pulled) cache.pool; queue = pushed full l cache.queue }) p.frames_are
    ∙ ap (λ b. record { pool = without (names plan.pulled) cache.pool; queue = pushed b (group_of front plan own cache.pool) cache.queue }) p.full_is
    ∙ ap (λ marks. record { pool = without (names plan.pulled) cache.pool; queue = pushed (is_full rules cache.queue) (group_of marks plan own cache.pool) cache.queue }) p.front_is
    ∙ ap (λ (q : Plan). eviction_done rules own q cache) same_plan
    ∙ sym (law rules own cache p.apart)

-- the frames that it stages, counted
pub staged_count : (rules : Rules) (cache : Cache) (front : List Mark) (plan : Plan) → front ≡ leaving rules cache.queue
    → plan ≡ eviction_plan rules.pulls rules.chances front (pool_marks cache) → length plan.staged ≡ length (staged_in_push rules cache.queue)
staged_count rules cache front plan front_is plan_is = grind (arith, common_steps, length-map)

pub next_after : (full : Bool) (group : List Frame) (queue : Queue) → (full ≡ true → 0 < length queue.groups)
    → (pushed full group queue).first + length (pushed full group queue).groups ≤ queue.first + length queue.groups + 1
next_after full group queue h = grind (arith, common_steps, length-append, length-drop)

-- A frame of the front group that is there, and one that isn't.
pub there : (front : List Mark) (place : ℕ) (mark : Mark) → true ≡ nat_lt place (length front) → mark ≡ get_or front place mark → slice_get front place ≡ Some mark
there front place mark less is = slice_get_read front (length front) place mark refl (ltb-true place (length front) (sym less)) is

pub not_there : (front : List Mark) (place : ℕ) → false ≡ nat_lt place (length front) → slice_get front place ≡ None
not_there front place more = past front place (ltb-false place (length front) (sym more))
  where
    past : (front : List Mark) (place : ℕ) → length front ≤ place → slice_get front place ≡ None
    past [] place less = refl
    past (m ∷ front) zero less = absurd (omega (arith, less))
    past (m ∷ front) (suc place) less = past front place (omega (arith, less))
