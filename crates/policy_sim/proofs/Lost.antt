-- Pages that lose their last frame with a push.
use Rattle.policy_sim.proofs.Names.{arith, ◌≡◌, ℕ, zero, suc, ◌==◌, ◌&&◌, ◌||◌, Bool, true, false, not, List, [], ◌∷◌, ◌++◌, slice_get, Some, refl, sym, ap, ◌∙◌, ne_eqb, eqb-true, or_cases, list_any, Mark, but, unless, group_of, pulled_frames, given_again, names, PoolPage, holds, without, Queue, front_marks, group_marks, has_frame, in_group, in_groups, pushed, Frame, Plan, eq_turned, and_true, or_true, or_false, or_without, or_assoc}
use Rattle.std.specs.Prelude.{if◌then◌else◌}
use Rattle.std.proofs.lemmas.Grind.{common_steps}

-- whether a page is among those of some marks
abbrev pub among : List Mark → ℕ → Bool
among front n = list_any (λ mark. n == mark.page) front

group_append : (xs ys : List Frame) (n : ℕ) → in_group (xs ++ ys) n ≡ (in_group xs n || in_group ys n)
group_append [] ys n = refl
group_append (x ∷ xs) ys n = ap (λ b. (x.page == n) || b) (group_append xs ys n) ∙ sym (or_assoc (x.page == n) (in_group xs n) (in_group ys n))

groups_append : (gs : List (List Frame)) (g : List Frame) (n : ℕ) → in_groups (gs ++ g ∷ []) n ≡ (in_groups gs n || in_group g n)
groups_append [] g n = or_false (in_group g n)
groups_append (h ∷ gs) g n = ap (λ b. in_group h n || b) (groups_append gs g n) ∙ sym (or_assoc (in_group h n) (in_groups gs n) (in_group g n))

-- the marks of a group name its pages
among_group : (group : List Frame) (later : List (List Frame)) (n : ℕ) → among (group_marks group later) n ≡ in_group group n
among_group [] later n = refl
among_group (f ∷ group) later n = (λ i. eq_turned n f.page i || among_group group later n i)

-- A page of the new group that is neither the evicted one nor pulled is one of the front group.

mark_there : (front : List Mark) (place : ℕ) (mark : Mark) (n : ℕ) → slice_get front place ≡ Some mark → (mark.page == n) ≡ true → among front n ≡ true
mark_there front place mark n at is = found front place at
  where
    found : (front : List Mark) (place : ℕ) → slice_get front place ≡ Some mark → among front n ≡ true
    found [] place at = absurd cc
    found (m ∷ front) zero at = let same : m ≡ mark = cc in ap (λ (x : Mark). (n == x.page) || among front n) same ∙ ap (λ b. b || among front n) (eq_turned n mark.page ∙ is)
    found (m ∷ front) (suc place) at = ap (λ b. (n == m.page) || b) (found front place at) ∙ or_true (n == m.page)

given_there : (front : List Mark) (places : List ℕ) (n : ℕ) → in_group (given_again front places) n ≡ true → among front n ≡ true
given_there front [] n is = absurd cc
given_there front (place ∷ places) n is = grind (arith, common_steps, or_cases, mark_there, (given_there front places n))

pulled_there : (pool : List PoolPage) (pages : List ℕ) (n : ℕ) → in_group (pulled_frames pool pages) n ≡ names pages n
pulled_there pool [] n = refl
pulled_there pool (page ∷ pages) n = ap (λ b. (page == n) || b) (pulled_there pool pages n)

new_there : (front : List Mark) (plan : Plan) (own : PoolPage) (pool : List PoolPage) (n : ℕ) → (own.page == n) ≡ false → names plan.pulled n ≡ false
    → in_group (group_of front plan own pool) n ≡ true → among front n ≡ true
new_there front plan own pool n not_own not_pulled is = grind (arith, common_steps, or_cases, group_append, given_there, pulled_there)

-- Which pages have frames after a push.

after_push : (a b c : Bool) → (c ≡ true → a ≡ true) → ((a || b) && (not a || (b || c))) ≡ (b || c)
after_push a b c h = grind (arith, common_steps)

never : (c : Bool) → (c ≡ true → false ≡ true) → c ≡ false
never c h = grind (arith, common_steps)

pub pushed_frames : (full : Bool) (front : List Mark) (queue : Queue) (group : List Frame) (n : ℕ) → front ≡ (if full then front_marks queue.groups else [])
    → (in_group group n ≡ true → among front n ≡ true) → unless front (pushed full group queue) (has_frame queue) n ≡ has_frame (pushed full group queue) n
pushed_frames full front queue group n h h2 = grind (arith, common_steps, never, or_without, among_group, groups_append, after_push, and_true)

-- what stays in the pool isn't among the pages that leave it
pub stays_in : (pages : List ℕ) (pool : List PoolPage) (n : ℕ) → holds (without (names pages) pool) n ≡ true → (names pages n ≡ false) × (holds pool n ≡ true)
stays_in pages [] n held = absurd cc
stays_in pages (p ∷ pool) n held = grind (arith, common_steps, or_true, or_cases, eqb-true, (stays_in pages pool n))

-- so each of its pages has a frame after the push exactly where it is said to
pub still_framed : (full : Bool) (front : List Mark) (queue : Queue) (plan : Plan) (own : PoolPage) (pool : List PoolPage) (n : ℕ)
    → front ≡ (if full then front_marks queue.groups else []) → holds pool own.page ≡ false → holds (without (names plan.pulled) pool) n ≡ true
    → unless front (pushed full (group_of front plan own pool) queue) (has_frame queue) n ≡ has_frame (pushed full (group_of front plan own pool) queue) n
still_framed full front queue plan own pool n is gone held = grind (arith, common_steps, stays_in, ne_eqb, pushed_frames, new_there)

-- the marks one by one
pub unless_more : (front : List Mark) (mark : Mark) (queue : Queue) (framed : ℕ → Bool) (n : ℕ)
    → unless (front ++ mark ∷ []) queue framed n ≡ (framed n && (not (among front n || (n == mark.page)) || has_frame queue n))
unless_more front mark queue framed n = grind (arith, common_steps, or_false, or_assoc)

-- none of them yet
pub unless_none : (queue : Queue) (framed : ℕ → Bool) (n : ℕ) → framed n ≡ unless [] queue framed n
unless_none queue framed n = sym (and_true (framed n))

-- one more, of a page that has no frame
pub unless_list : (front : List Mark) (mark : Mark) (queue : Queue) (framed : ℕ → Bool) (n : ℕ) → has_frame queue mark.page ≡ false
    → but mark.page (unless front queue framed) n ≡ unless (front ++ mark ∷ []) queue framed n
unless_list front mark queue framed n none = grind (arith, common_steps, eqb-true, unless_more)

-- one more, of a page that has a frame
pub unless_stay : (front : List Mark) (mark : Mark) (queue : Queue) (framed : ℕ → Bool) (n : ℕ) → has_frame queue mark.page ≡ true
    → unless front queue framed n ≡ unless (front ++ mark ∷ []) queue framed n
unless_stay front mark queue framed n there = grind (arith, common_steps, eqb-true, unless_more)
