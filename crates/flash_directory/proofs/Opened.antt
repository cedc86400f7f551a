-- The queue of groups with given heads.
use Rattle.flash_directory.proofs.Names.{◌≡◌, ℕ, ◌+◌, ◌^◌, ◌<◌, ◌≤◌, Bool, true, false, List, [], ◌∷◌, ◌++◌, length, length-append, length-drop, get_or, drop, take, map, All, arith, refl, sym, ap, subst, ◌∙◌, length-map, length-take-le, take_all, take_more, prefix_len-le-length, AllByRecursion, FrameHead, frames_in, IsQueue, Queue, frame_of, pushed, Frame}
use Rattle.std.proofs.lemmas.List.Elements.{recursion_from_All}
use Rattle.byte_fields.specs.FrameHeads.{AreGroupHeads, present_in_front}

pub length-frames_in : (heads : List FrameHead) → length (frames_in heads) ≡ present_in_front heads
length-frames_in heads =
    length-map (take (present_in_front heads) heads) (λ head. frame_of head.page head.dirty)
    ∙ length-take-le (present_in_front heads) heads (prefix_len-le-length (λ head. head.present) heads)

pub size_of_heads : (heads : List FrameHead) → AreGroupHeads heads → (1 ≤ length (frames_in heads)) × (length (frames_in heads) ≤ 8)
size_of_heads heads are =
    let long = length-frames_in heads in
    (omega (arith, long, are.some), omega (arith, long, are.eight, prefix_len-le-length (λ (head : FrameHead). head.present) heads))

sizes : (lists : List (List FrameHead)) → AllByRecursion (λ group. AreGroupHeads group) lists
    → AllByRecursion (λ group. (1 ≤ length group) × (length group ≤ 8)) (map frames_in lists)
sizes [] all = tt
sizes (heads ∷ lists) all = (size_of_heads heads all.0, sizes lists all.1)

-- the groups of one list of heads more
pub map_more : (lists : List (List FrameHead)) (groups : List (List Frame)) (i : ℕ) (d : List FrameHead) → i < length lists → groups ≡ map frames_in (take i lists)
    → groups ++ frames_in (get_or lists i d) ∷ [] ≡ map frames_in (take (i + 1) lists)
map_more lists groups i d less are =
    ap (λ l. l ++ frames_in (get_or lists i d) ∷ []) are ∙ sym (map_append (take i lists) (get_or lists i d ∷ [])) ∙ ap (map frames_in) (sym (take_more lists i d less))
  where
    map_append : (xs ys : List (List FrameHead)) → map frames_in (xs ++ ys) ≡ map frames_in xs ++ map frames_in ys
    map_append [] ys = refl
    map_append (x ∷ xs) ys = ap (λ l. frames_in x ∷ l) (map_append xs ys)

-- one group more, where the front one may leave
pub queue_pushed : (q : Queue) (leaves : Bool) (group : List Frame) → IsQueue q → (1 ≤ length group) × (length group ≤ 8)
    → q.first + length q.groups ≤ 2 ^ 40 → IsQueue (pushed leaves group q)
queue_pushed q true group queue size low = record {
  sizes = sizes_push (drop 1 q.groups) (sizes_drop q.groups queue.sizes);
  numbers = omega (arith, low, length-append (drop 1 q.groups) (group ∷ []), length-drop 1 q.groups);
}
  where
    sizes_drop : (groups : List (List Frame)) → AllByRecursion (λ g. (1 ≤ length g) × (length g ≤ 8)) groups → AllByRecursion (λ g. (1 ≤ length g) × (length g ≤ 8)) (drop 1 groups)
    sizes_drop [] all = tt
    sizes_drop (g ∷ groups) all = all.1

    sizes_push : (groups : List (List Frame)) → AllByRecursion (λ g. (1 ≤ length g) × (length g ≤ 8)) groups → AllByRecursion (λ g. (1 ≤ length g) × (length g ≤ 8)) (groups ++ group ∷ [])
    sizes_push [] all = (size, tt)
    sizes_push (g ∷ groups) all = (all.0, sizes_push groups all.1)
queue_pushed q false group queue size low = record {
  sizes = sizes_push q.groups queue.sizes;
  numbers = omega (arith, low, length-append q.groups (group ∷ []));
}
  where
    sizes_push : (groups : List (List Frame)) → AllByRecursion (λ g. (1 ≤ length g) × (length g ≤ 8)) groups → AllByRecursion (λ g. (1 ≤ length g) × (length g ≤ 8)) (groups ++ group ∷ [])
    sizes_push [] all = (size, tt)
    sizes_push (g ∷ groups) all = (all.0, sizes_push groups all.1)

pub queue_of_heads : (first : ℕ) (lists : List (List FrameHead)) (groups : List (List Frame)) (i : ℕ) → All (λ group. AreGroupHeads group) lists → length lists ≤ i
    → groups ≡ map frames_in (take i lists) → first ≤ 2 ^ 40 → length groups < 2 ^ 63 → IsQueue (record { first = first; groups = groups })
queue_of_heads first lists groups i all whole are low few = record {
  sizes = subst (λ l. AllByRecursion (λ group. (1 ≤ length group) × (length group ≤ 8)) l) (sym (are ∙ ap (map frames_in) (take_all i lists whole)))
      (sizes lists (recursion_from_All (λ group. AreGroupHeads group) lists all));
  numbers = omega (arith, low, few);
}
