-- The rings on flash, and what the directory has of the groups there.
use Rattle.std.proofs.lemmas.Grind.{common_steps}
use Rattle.flash_cache.proofs.Names.{◌≡◌, ℕ, zero, suc, ◌+◌, ◌-◌, ◌<◌, ◌≤◌, Bool, true, false, cond, List, [], ◌∷◌, ◌++◌, length, map, take, replicate, arith, refl, sym, ap, subst, All, AllByRecursion, take_while, prefix_len, blank, AreGroupHeads, FrameHead, AllTogether, Shows, PagesExist, size_of_heads, frames_in, Frame, head_of, heads_of, usable_later, Ring, known_of, Known, Preserves, State, Geometry, AreRings}

-- and so may both rings
pub rings_later : (g : Geometry) (ring segments : Ring) (old new : State) → Preserves old new → AreRings g ring segments old → AreRings g ring segments new
rings_later g ring segments old new goes rings = grind (arith, common_steps, usable_later)

pub length-mapped : {A B : Type 0} (f : A → B) (xs : List A) → length (map f xs) ≡ length xs
length-mapped f [] = refl
length-mapped f (x ∷ xs) = ap suc (length-mapped f xs)

-- what the directory has of a group's heads
none_of_blanks : (n : ℕ) → take_while (λ (head : FrameHead). head.present) (replicate n blank) ≡ []
none_of_blanks zero = refl
none_of_blanks (suc n) = refl

pub known_heads : (frames : List Frame) (n : ℕ) → frames_in (map head_of frames ++ replicate n blank) ≡ map (λ frame. known_of frame.page frame.dirty) frames
known_heads [] n = ap (map (λ (head : FrameHead). known_of head.page head.dirty)) (none_of_blanks n)
known_heads (frame ∷ frames) n = grind (arith, common_steps, replicate, (known_heads frames n))

pub known_groups : (groups : List (List Frame)) → map frames_in (map heads_of groups) ≡ map (map (λ frame. known_of frame.page frame.dirty)) groups
known_groups [] = refl
known_groups (frames ∷ groups) = λ i. known_heads frames (8 - length frames) i ∷ known_groups groups i

group_shown : (frames : List Frame) → AllTogether Shows (map (λ frame. known_of frame.page frame.dirty) frames) frames
group_shown [] = tt
group_shown (frame ∷ frames) = (record { page = refl; dirty = refl }, group_shown frames)

pub all_shown : (groups : List (List Frame)) → AllTogether (AllTogether Shows) (map (map (λ frame. known_of frame.page frame.dirty)) groups) groups
all_shown [] = tt
all_shown (frames ∷ groups) = (group_shown frames, all_shown groups)

-- groups of good heads

pub sizes_known : (lists : List (List FrameHead)) → All (λ heads. AreGroupHeads heads) lists → AllByRecursion (λ frames. (1 ≤ length frames) × (length frames ≤ 8)) (map frames_in lists)
sizes_known [] all = tt
sizes_known (heads ∷ lists) all = (size_of_heads heads (all 0 [] (omega arith)), sizes_known lists (λ k d lt. all (suc k) d (omega (arith, lt))))

pub exist_in : (pages : ℕ) (heads : List FrameHead) → PagesExist pages heads → AllByRecursion (λ (frame : Known). frame.page < pages) (frames_in heads)
exist_in pages [] all = tt
exist_in pages (head ∷ heads) all = by head.present refl (exist_in pages heads (λ k d lt. all (suc k) d (omega (arith, lt))))
  where
    len : ℕ
    len = prefix_len (λ (h : FrameHead). h.present) heads

    more : (m : ℕ) → m ≡ suc len → (head.page < pages) → AllByRecursion (λ (frame : Known). frame.page < pages) (frames_in heads) → AllByRecursion (λ (frame : Known). frame.page < pages) (map (λ (h : FrameHead). known_of h.page h.dirty) (take m (head ∷ heads)))
    more m is own rest = subst (λ (n : ℕ). AllByRecursion (λ (frame : Known). frame.page < pages) (map (λ (h : FrameHead). known_of h.page h.dirty) (take n (head ∷ heads)))) (sym is) (own, rest)

    by : (b : Bool) → head.present ≡ b → AllByRecursion (λ (frame : Known). frame.page < pages) (frames_in heads) → AllByRecursion (λ (frame : Known). frame.page < pages) (map (λ (h : FrameHead). known_of h.page h.dirty) (take (cond head.present (1 + len) 0) (head ∷ heads)))
    by true is rest = subst (λ (b : Bool). AllByRecursion (λ (frame : Known). frame.page < pages) (map (λ (h : FrameHead). known_of h.page h.dirty) (take (cond b (1 + len) 0) (head ∷ heads)))) (sym is) (more (1 + len) (omega arith) (all 0 head (omega arith) is) rest)
    by false is rest = subst (λ (b : Bool). AllByRecursion (λ (frame : Known). frame.page < pages) (map (λ (h : FrameHead). known_of h.page h.dirty) (take (cond b (1 + len) 0) (head ∷ heads)))) (sym is) tt

pub exist_known : (pages : ℕ) (lists : List (List FrameHead)) → All (λ heads. PagesExist pages heads) lists → AllByRecursion (λ frames. AllByRecursion (λ (frame : Known). frame.page < pages) frames) (map frames_in lists)
exist_known pages [] all = tt
exist_known pages (heads ∷ lists) all = (exist_in pages heads (all 0 [] (omega arith)), exist_known pages lists (λ k d lt. all (suc k) d (omega (arith, lt))))
