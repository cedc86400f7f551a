-- The directory's frames and those on flash.
use Rattle.std.proofs.lemmas.Grind.{common_steps}
use Rattle.flash_cache.proofs.Names.{◌≡◌, ℕ, zero, suc, ◌+◌, ◌<◌, ◌==◌, Bool, true, false, cond, List, [], ◌∷◌, ◌++◌, length, get_or, map, Option, Some, None, option_map, add-one, arith, refl, sym, ap, ◌∙◌, AllByRecursion, option_or, Result, Err, IsErrOf, Shows, AllTogether, HasFrames, last_in, last_place, in_first, in_next, frames_are_in, last_of_both, Frame, group, frames_of, last_frame, group_read, groups_read, Known, Geometry}

-- the last frame of a page in a group

last_in-next : (n : ℕ) (known : List Known) (page : ℕ) → last_in (n + 1) known page ≡ option_map (λ i. i + 1) (last_in n known page)
last_in-next n [] page = refl
last_in-next n (frame ∷ known) page = grind (arith, common_steps, (last_in-next (n + 1) known page))

pub last_in_frames : (known : List Known) (frames : List Frame) (page : ℕ) (d : Frame) → AllTogether Shows known frames → last_frame page frames ≡ option_map (λ i. get_or frames i d) (last_in 0 known page)
last_in_frames [] [] page d shown = refl
last_in_frames [] (f ∷ fs) page d shown = absurd shown
last_in_frames (k ∷ ks) [] page d shown = absurd shown
last_in_frames (k ∷ ks) (f ∷ fs) page d shown =
    ap (λ o. option_or o (cond (f.page == page) (Some f) None)) (last_in_frames ks fs page d shown.1)
    ∙ ap (λ p. option_or (option_map (λ i. get_or fs i d) (last_in 0 ks page)) (cond (p == page) (Some f) None)) (sym shown.0.page)
    ∙ both (last_in 0 ks page) (k.page == page)
    ∙ sym (ap (λ o. option_map (λ i. get_or (f ∷ fs) i d) (option_or o (cond (k.page == page) (Some 0) None))) (last_in-next 0 ks page))
  where
    both : (o : Option ℕ) (b : Bool) → option_or (option_map (λ i. get_or fs i d) o) (cond b (Some f) None) ≡ option_map (λ i. get_or (f ∷ fs) i d) (option_or (option_map (λ i. i + 1) o) (cond b (Some 0) None))
    both None true = refl
    both None false = refl
    both (Some i) b = ap (λ n. Some (get_or (f ∷ fs) n d)) (sym (add-one i))

-- the frames of all groups, one group behind the other
abbrev pub joined : List (List Frame) → List Frame
joined [] = []
joined (frames ∷ groups) = frames ++ joined groups

pub last_of_groups : (known : List (List Known)) (groups : List (List Frame)) (page : ℕ) (d : Frame) → AllTogether (AllTogether Shows) known groups
    → last_frame page (joined groups) ≡ option_map (λ p. get_or (get_or groups p.0 []) p.1 d) (last_place known page)
last_of_groups [] [] page d shown = refl
last_of_groups [] (f ∷ fs) page d shown = absurd shown
last_of_groups (k ∷ ks) [] page d shown = absurd shown
last_of_groups (k ∷ ks) (f ∷ fs) page d shown =
    last_of_both page f (joined fs)
    ∙ ap (λ o. option_or o (last_frame page f)) (last_of_groups ks fs page d shown.1)
    ∙ ap (λ o. option_or (option_map (λ p. get_or (get_or fs p.0 []) p.1 d) (last_place ks page)) o) (last_in_frames k f page d shown.0)
    ∙ both (last_place ks page) (last_in 0 k page)
  where
    both : (o : Option (ℕ × ℕ)) (q : Option ℕ) → option_or (option_map (λ p. get_or (get_or fs p.0 []) p.1 d) o) (option_map (λ i. get_or f i d) q)
        ≡ option_map (λ p. get_or (get_or (f ∷ fs) p.0 []) p.1 d) (option_or (option_map in_next o) (option_map in_first q))
    both None None = refl
    both None (Some i) = refl
    both (Some p) q = ap (λ n. Some (get_or (get_or (f ∷ fs) n []) p.1 d)) (sym (add-one p.0))

-- the same lengths

pub together_length : {A B : Type 0} (R : A → B → Type 0) (xs : List A) (ys : List B) → AllTogether R xs ys → length xs ≡ length ys
together_length R [] [] all = refl
together_length R [] (y ∷ ys) all = absurd all
together_length R (x ∷ xs) [] all = absurd all
together_length R (x ∷ xs) (y ∷ ys) all = ap suc (together_length R xs ys all.1)

pub together_at : {A B : Type 0} (R : A → B → Type 0) (xs : List A) (ys : List B) (k : ℕ) (d : A) (e : B) → AllTogether R xs ys → k < length xs → R (get_or xs k d) (get_or ys k e)
together_at R [] ys k d e all lt = absurd (omega (arith, lt))
together_at R (x ∷ xs) [] k d e all lt = absurd all
together_at R (x ∷ xs) (y ∷ ys) zero d e all lt = all.0
together_at R (x ∷ xs) (y ∷ ys) (suc k) d e all lt = together_at R xs ys k d e all.1 (omega (arith, lt))

-- a page was read

frames_read : (page : ℕ) (known : List Known) (later : List (List Known)) (frames : List Frame) → AllTogether Shows known frames → AllTogether Shows (group_read page known later) frames
frames_read page [] later [] shown = tt
frames_read page [] later (f ∷ fs) shown = absurd shown
frames_read page (k ∷ ks) later [] shown = absurd shown
frames_read page (k ∷ ks) later (f ∷ fs) shown = (record { page = shown.0.page; dirty = shown.0.dirty }, frames_read page ks later fs shown.1)

pub groups_shown : (page : ℕ) (known : List (List Known)) (groups : List (List Frame)) → AllTogether (AllTogether Shows) known groups → AllTogether (AllTogether Shows) (groups_read page known) groups
groups_shown page [] [] shown = tt
groups_shown page [] (f ∷ fs) shown = absurd shown
groups_shown page (k ∷ ks) [] shown = absurd shown
groups_shown page (k ∷ ks) (f ∷ fs) shown = (frames_read page k ks f shown.0, groups_shown page ks fs shown.1)

exist_in_group : (pages page : ℕ) (known : List Known) (later : List (List Known)) → AllByRecursion (λ frame. frame.page < pages) known → AllByRecursion (λ frame. frame.page < pages) (group_read page known later)
exist_in_group pages page [] later all = tt
exist_in_group pages page (k ∷ ks) later all = (all.0, exist_in_group pages page ks later all.1)

pub exist_read : (pages page : ℕ) (known : List (List Known)) → AllByRecursion (λ frames. AllByRecursion (λ frame. frame.page < pages) frames) known → AllByRecursion (λ frames. AllByRecursion (λ frame. frame.page < pages) frames) (groups_read page known)
exist_read pages page [] all = tt
exist_read pages page (k ∷ ks) all = (exist_in_group pages page k ks all.0, exist_read pages page ks all.1)

-- the frames of live groups

pub frames_of_groups : (g : Geometry) (groups : List (List Frame)) → AllByRecursion (λ frames. HasFrames g frames (group frames)) groups → frames_of (map group groups) ≡ joined groups
frames_of_groups g [] all = refl
frames_of_groups g (frames ∷ groups) all = grind (arith, common_steps, frames_are_in, (frames_of_groups g groups all.1))

pub has_at : (g : Geometry) (groups : List (List Frame)) (k : ℕ) → AllByRecursion (λ frames. HasFrames g frames (group frames)) groups → k < length groups → HasFrames g (get_or groups k []) (group (get_or groups k []))
has_at g [] k all lt = absurd (omega (arith, lt))
has_at g (frames ∷ groups) zero all lt = all.0
has_at g (frames ∷ groups) (suc k) all lt = has_at g groups k all.1 (omega (arith, lt))

-- an error is that error, of whatever it was the result
pub err_again : {T U E : Type 0} (a b : E) → IsErrOf {T = T} (Err a) b → IsErrOf {T = U} (Err a) b
err_again {T} {U} {E} a b is = let same : a ≡ b = cc in ap {A = E} {B = Result U E} (λ (e : E). Err e) same
