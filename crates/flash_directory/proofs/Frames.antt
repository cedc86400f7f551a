-- The frames of one group.
use Rattle.flash_directory.proofs.Names.{◌≡◌, ℕ, zero, suc, ◌+◌, ◌<◌, ◌==◌, Bool, true, false, cond, List, [], ◌∷◌, ◌++◌, length, get_or, set, take, drop, map, Option, Some, None, append-nil, append_assoc, add-one, arith, refl, sym, ap, ◌∙◌, length-set, take_all, drop_all, take_while-cons, refill, option_or, FrameHead, frames_in, last_in, read_at, frame_of, Frame}
use Rattle.std.specs.Prelude.{take_while}
use Rattle.std.proofs.Math.Seq.{drop-cons}

-- the frames of heads, the first of which is present
frames_in-cons : (b : Bool) (head : FrameHead) (heads : List FrameHead) → head.present ≡ b
    → frames_in (head ∷ heads) ≡ cond b (frame_of head.page head.dirty ∷ frames_in heads) []
frames_in-cons true head heads is = ap (map (λ h. frame_of h.page h.dirty)) (take_while-cons (λ h. h.present) head heads ∙ ap (λ b. cond b (head ∷ take_while (λ h. h.present) heads) []) is)
frames_in-cons false head heads is = ap (map (λ h. frame_of h.page h.dirty)) (take_while-cons (λ h. h.present) head heads ∙ ap (λ b. cond b (head ∷ take_while (λ h. h.present) heads) []) is)

-- all frames are those so far and those of the heads that are left
pub frames_more : (heads : List FrameHead) (so_far : List Frame) (i : ℕ) (d : FrameHead) → i < length heads
    → frames_in heads ≡ so_far ++ frames_in (drop i heads) → (get_or heads i d).present ≡ true
    → frames_in heads ≡ (so_far ++ frame_of (get_or heads i d).page (get_or heads i d).dirty ∷ []) ++ frames_in (drop (i + 1) heads)
frames_more heads so_far i d less is present =
    is ∙ ap (λ l. so_far ++ frames_in l) (drop-cons heads i d less) ∙ ap (λ l. so_far ++ l) (frames_in-cons true (get_or heads i d) (drop (suc i) heads) present)
    ∙ sym (append_assoc so_far (frame_of (get_or heads i d).page (get_or heads i d).dirty ∷ []) (frames_in (drop (suc i) heads)))
    ∙ ap (λ k. (so_far ++ frame_of (get_or heads i d).page (get_or heads i d).dirty ∷ []) ++ frames_in (drop k heads)) (sym (add-one i))

-- a search for the last frame of a page, one frame further
by_test : (b c : Bool) (first later : ℕ) (before : Option ℕ)
    → option_or (cond c (Some later) before) (cond b (Some first) None) ≡ cond c (Some later) (option_or before (cond b (Some first) None))
by_test b true first later before = refl
by_test b false first later before = refl

same_place : (b : Bool) (n m : ℕ) (before : Option ℕ) → n ≡ m → cond b (Some n) before ≡ cond b (Some m) before
same_place b n m before is = ap (λ k. cond b (Some k) before) is

pub last_more : (n : ℕ) (frames : List Frame) (i : ℕ) (d : Frame) (page : ℕ) → i < length frames
    → last_in n (take (suc i) frames) page ≡ cond ((get_or frames i d).page == page) (Some (n + i)) (last_in n (take i frames) page)
last_more n [] i d page less = absurd (omega (arith, less))
last_more n (frame ∷ frames) zero d page less = same_place (frame.page == page) n (n + 0) None (omega arith)
last_more n (frame ∷ frames) (suc i) d page less =
    ap (λ o. option_or o (cond (frame.page == page) (Some n) None)) (last_more (n + 1) frames i d page (omega (arith, less)))
    ∙ by_test (frame.page == page) ((get_or frames i d).page == page) n (n + 1 + i) (last_in (n + 1) (take i frames) page)
    ∙ same_place ((get_or frames i d).page == page) (n + 1 + i) (n + suc i) _ (omega arith)

-- a frame is read by setting its mark
pub read_at-set : (frames : List Frame) (i : ℕ) (d : Frame) → i < length frames
    → set frames i (record { page = (get_or frames i d).page; dirty = (get_or frames i d).dirty; referenced = true }) ≡ read_at i frames
read_at-set [] i d less = absurd (omega (arith, less))
read_at-set (frame ∷ frames) zero d less = refl
read_at-set (frame ∷ frames) (suc i) d less = ap (λ l. frame ∷ l) (read_at-set frames i d (omega (arith, less)))

-- what a write behind a borrow of all frames leaves
pub refill-read_at : (shown held frames : List Frame) (i : ℕ) (d : Frame) → shown ≡ held → held ≡ frames → i < length frames
    → refill (length held) held (set shown i (record { page = (get_or shown i d).page; dirty = (get_or shown i d).dirty; referenced = true })) ≡ read_at i frames
refill-read_at shown held frames i d shown_is held_is less = rw (shown_is, held_is) (filled ∙ read_at-set frames i d less)
  where
    long : length (set frames i (record { page = (get_or frames i d).page; dirty = (get_or frames i d).dirty; referenced = true })) ≡ length frames
    long = length-set frames i _

    filled : refill (length frames) frames (set frames i (record { page = (get_or frames i d).page; dirty = (get_or frames i d).dirty; referenced = true }))
        ≡ set frames i (record { page = (get_or frames i d).page; dirty = (get_or frames i d).dirty; referenced = true })
    filled = ap (take (length frames)) (ap (λ l. set frames i (record { page = (get_or frames i d).page; dirty = (get_or frames i d).dirty; referenced = true }) ++ l)
        (drop_all _ frames (omega (arith, long))) ∙ append-nil _) ∙ take_all (length frames) _ (omega (arith, long))
