-- Which pages a push at an eviction pulls.
use Rattle.std.proofs.lemmas.Grind.{common_steps}
use Rattle.page_store.proofs.Names.{arith, ◌≡◌, ℕ, ◌≤◌, Bool, true, false, not, ◌||◌, cond, List, [], ◌∷◌, take, map, filter, reverse, refl, ap, ◌∙◌, map-append, reverse-append, take-take, take-map, map-map, Frame, mark_for, movable_mark, movable, Queue, PoolMark, all_each, all_map, or_true, filter_all}

-- lists

pub reverse_map : {X Y : Type 0} (f : X → Y) (xs : List X) → reverse (map f xs) ≡ map f (reverse xs)
reverse_map f [] = refl
reverse_map f (x ∷ xs) = grind (arith, common_steps, reverse-append, map-append, (reverse_map f xs))

-- what a plan is told of a page that a listing of the coldest ones has
abbrev pub told_mark : ℕ × Bool → PoolMark
told_mark m = record { page = m.0; changed = m.1; framed = false }

-- What is pulled, by the marks of pages that stand with the coldest in front.

abbrev pub passes : PoolMark → Bool
passes m = m.changed || not m.framed

filter_movable : (queue : Queue) (xs : List Frame) → filter passes (map (mark_for queue) xs) ≡ map (mark_for queue) (movable queue xs)
filter_movable queue [] = refl
filter_movable queue (x ∷ xs) = grind (arith, common_steps, (filter_movable queue xs))

pub pulled_of : (pulls : Bool) (n : ℕ) (queue : Queue) (xs : List Frame) → cond pulls (take n (filter passes (map (mark_for queue) xs))) [] ≡ map (mark_for queue) (cond pulls (take n (movable queue xs)) [])
pulled_of pulls n queue xs = grind (arith, common_steps, filter_movable, take-map)

-- the first seven that may be pulled are enough
pub pulled_by_plan : (pulls : Bool) (n : ℕ) (queue : Queue) (xs : List Frame) → n ≤ 7
    → map (λ (m : PoolMark). m.page) (cond pulls (take n (filter passes (map movable_mark (take 7 (movable queue xs))))) []) ≡ map (λ (f : Frame). f.page) (cond pulls (take n (movable queue xs)) [])
pulled_by_plan pulls n queue xs few =
    ap (λ (l : List PoolMark). map (λ (m : PoolMark). m.page) (cond pulls (take n l) [])) (filter_all passes (map movable_mark first) (all_map (λ (m : PoolMark). passes m ≡ true) movable_mark first (all_each _ (λ (f : Frame). or_true f.changed) first)))
    ∙ by pulls
  where
    first : List Frame
    first = take 7 (movable queue xs)

    by : (pulls : Bool) → map (λ (m : PoolMark). m.page) (cond pulls (take n (map movable_mark first)) []) ≡ map (λ (f : Frame). f.page) (cond pulls (take n (movable queue xs)) [])
    by false = refl
    by true =
        ap (map (λ (m : PoolMark). m.page)) (take-map movable_mark n first) ∙ map-map (λ (m : PoolMark). m.page) movable_mark (take n first)
        ∙ ap (map (λ (f : Frame). f.page)) (take-take n 7 (movable queue xs) few)
