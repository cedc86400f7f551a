-- The marks of a group's frames, one by one.
use Rattle.flash_directory.proofs.Names.{◌≡◌, ℕ, zero, suc, ◌+◌, ◌<◌, List, [], ◌∷◌, ◌++◌, length, get_or, set, take, drop, Some, slice_get, add-one, arith, refl, sym, ap, ◌∙◌, take_more, take_more_set, take_all, is_last, mark_of, group_marks, marks_of_groups, Frame}
use Rattle.byte_fields.specs.declared.frame_head.Mark.{Mark}

pub length-group_marks : (group : List Frame) (later : List (List Frame)) → length (group_marks group later) ≡ length group
length-group_marks [] later = refl
length-group_marks (frame ∷ behind) later = ap suc (length-group_marks behind later)

get_or-group_marks : (group : List Frame) (later : List (List Frame)) (i : ℕ) (d : Frame) (e : Mark) → i < length group
    → get_or (group_marks group later) i e ≡ mark_of (is_last (drop (suc i) group) later (get_or group i d)) (get_or group i d)
get_or-group_marks [] later i d e less = absurd (omega (arith, less))
get_or-group_marks (frame ∷ behind) later zero d e less = refl
get_or-group_marks (frame ∷ behind) later (suc i) d e less = get_or-group_marks behind later i d e (omega (arith, less))

-- one mark more
pub marks_more : (into : List Mark) (group : List Frame) (later : List (List Frame)) (i : ℕ) (d : Frame) → i < length group → i < length into
    → take i into ≡ take i (group_marks group later)
    → take (i + 1) (set into i (mark_of (is_last (drop (i + 1) group) later (get_or group i d)) (get_or group i d))) ≡ take (i + 1) (group_marks group later)
marks_more into group later i d less room so_far =
    let mark : Mark = mark_of (is_last (drop (i + 1) group) later (get_or group i d)) (get_or group i d) in
    take_more_set into i mark room ∙ ap (λ l. l ++ mark ∷ []) so_far
    ∙ ap (λ m. take i (group_marks group later) ++ m ∷ []) (ap (λ n. mark_of (is_last (drop n group) later (get_or group i d)) (get_or group i d)) (add-one i) ∙ sym (get_or-group_marks group later i d mark less))
    ∙ sym (take_more (group_marks group later) i mark (omega (arith, less, length-group_marks group later)))

pub marks_at : (groups : List (List Frame)) (k : ℕ) (d : List Frame) → k < length groups
    → slice_get (marks_of_groups groups) k ≡ Some (group_marks (get_or groups k d) (drop (k + 1) groups))
marks_at groups k d less = by groups k less ∙ ap (λ n. Some (group_marks (get_or groups k d) (drop n groups))) (sym (add-one k))
  where
    by : (gs : List (List Frame)) (n : ℕ) → n < length gs → slice_get (marks_of_groups gs) n ≡ Some (group_marks (get_or gs n d) (drop (suc n) gs))
    by [] n within = absurd (omega (arith, within))
    by (group ∷ later) zero within = refl
    by (group ∷ later) (suc n) within = by later n (omega (arith, within))

pub marks_all : (into : List Mark) (group : List Frame) (later : List (List Frame)) (i : ℕ) → i ≡ length group
    → take i into ≡ take i (group_marks group later) → group_marks group later ≡ take (length group) into
marks_all into group later i all is =
    sym (ap (λ n. take n into) (sym all) ∙ is ∙ take_all i (group_marks group later) (omega (arith, all, length-group_marks group later)))
