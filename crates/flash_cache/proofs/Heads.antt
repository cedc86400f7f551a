-- The heads of frames, and the frames that heads and contents make.
use Rattle.flash_cache.proofs.Names.{◌≡◌, ℕ, zero, suc, ◌-◌, ◌<◌, ◌≤◌, Bool, List, [], ◌∷◌, ◌++◌, length, get_or, map, replicate, arith, refl, ap, length-append, map-append, slice_set, blank, FrameHead, frames_with, no_frame, frames_given, length_heads, Frame, head_of, frame_of, heads_of}
use Rattle.flash_cache.proofs.Standing.{length-mapped}
use Rattle.std.proofs.lemmas.Grind.{common_steps}

-- one head more

set_next : {X : Type 0} (xs : List X) (b y : X) (m : ℕ) → slice_set (xs ++ replicate (suc m) b) (length xs) y ≡ (xs ++ y ∷ []) ++ replicate m b
set_next [] b y m = refl
set_next (x ∷ xs) b y m = ap (λ l. x ∷ l) (set_next xs b y m)

pub next_head : (frames : List Frame) (frame : Frame) → length frames < 8 → slice_set (heads_of frames) (length frames) (head_of frame) ≡ heads_of (frames ++ frame ∷ [])
next_head frames frame few = grind (arith, common_steps, length-append, replicate, length-mapped, set_next, map-append)

-- the head at a place

mapped_at : (frames : List Frame) (rest : List FrameHead) (n : ℕ) (d : FrameHead) (e : Frame) → n < length frames → get_or (map head_of frames ++ rest) n d ≡ head_of (get_or frames n e)
mapped_at [] rest n d e lt = absurd (omega (arith, lt))
mapped_at (f ∷ frames) rest zero d e lt = refl
mapped_at (f ∷ frames) rest (suc n) d e lt = mapped_at frames rest n d e (omega (arith, lt))

pub head_at : (frames : List Frame) (n : ℕ) (d : FrameHead) (e : Frame) → n < length frames → get_or (heads_of frames) n d ≡ head_of (get_or frames n e)
head_at frames n d e lt = mapped_at frames (replicate (8 - length frames) blank) n d e lt

-- frames by their heads

zip_nil : (heads : List FrameHead) → frames_with heads [] ≡ []
zip_nil [] = refl
zip_nil (h ∷ heads) = refl

pub length-with : (heads : List FrameHead) (contents : List (List ℕ)) → length contents ≤ length heads → length (frames_with heads contents) ≡ length contents
length-with heads [] le = ap length (zip_nil heads)
length-with [] (o ∷ contents) le = absurd (omega (arith, le))
length-with (h ∷ heads) (o ∷ contents) le = ap suc (length-with heads contents (omega (arith, le)))

pub with_at : (heads : List FrameHead) (contents : List (List ℕ)) (n : ℕ) (d : FrameHead) (o : List ℕ) (e : Frame) → n < length heads → n < length contents
    → get_or (frames_with heads contents) n e ≡ frame_of (get_or heads n d) (get_or contents n o)
with_at [] contents n d o e lt less = absurd (omega (arith, lt))
with_at (h ∷ heads) [] n d o e lt less = absurd (omega (arith, less))
with_at (h ∷ heads) (c ∷ contents) zero d o e lt less = refl
with_at (h ∷ heads) (c ∷ contents) (suc n) d o e lt less = with_at heads contents n d o e (omega (arith, lt)) (omega (arith, less))

given_again : (pages : List ℕ) (changed : List Bool) (contents : List (List ℕ)) (rest : List FrameHead) → length changed ≡ length pages → length contents ≡ length pages
    → frames_with (map head_of (frames_given pages changed contents) ++ rest) contents ≡ frames_given pages changed contents
given_again [] changed [] rest marks lists = zip_nil rest
given_again [] changed (o ∷ contents) rest marks lists = absurd (omega (arith, lists))
given_again (p ∷ pages) [] contents rest marks lists = absurd (omega (arith, marks))
given_again (p ∷ pages) (c ∷ changed) [] rest marks lists = absurd (omega (arith, lists))
given_again (p ∷ pages) (c ∷ changed) (o ∷ contents) rest marks lists = grind (arith, common_steps, (given_again pages changed contents rest (omega (arith, marks)) (omega (arith, lists))))

-- the heads of the frames given make them again with their contents
pub heads_make : (pages : List ℕ) (changed : List Bool) (contents : List (List ℕ)) (heads : List FrameHead) → length changed ≡ length pages → length contents ≡ length pages
    → heads ≡ heads_of (frames_given pages changed contents) → frames_with heads contents ≡ frames_given pages changed contents
heads_make pages changed contents heads marks lists is = grind (arith, common_steps, given_again, replicate)

-- heads that are those of the frames that they make: their frame at a place, and its head

pub record IsWith (heads : List FrameHead) (contents : List (List ℕ)) (n : ℕ) : Type 0 where
  pub long : length (frames_with heads contents) ≡ length contents
  pub head : get_or heads n blank ≡ head_of (get_or (frames_with heads contents) n no_frame)
  pub frame : get_or (frames_with heads contents) n no_frame ≡ frame_of (get_or heads n blank) (get_or contents n [])

with_few : (heads : List FrameHead) (contents : List (List ℕ)) → length contents ≤ 8 → length (frames_with heads contents) ≤ length contents
with_few heads [] few = let none = ap length (zip_nil heads) in omega (arith, none)
with_few [] (o ∷ contents) few = omega arith
with_few (h ∷ heads) (o ∷ contents) few = let rest = with_few heads contents (omega (arith, few)) in omega (arith, rest)

pub is_with_all : (heads : List FrameHead) (contents : List (List ℕ)) → length contents ≤ 8 → heads ≡ heads_of (frames_with heads contents) → length (frames_with heads contents) ≡ length contents
is_with_all heads contents few is = grind (arith, common_steps, with_few, length_heads, length-with)

pub is_with : (heads : List FrameHead) (contents : List (List ℕ)) (n : ℕ) → length contents ≤ 8 → heads ≡ heads_of (frames_with heads contents) → n < length contents → IsWith heads contents n
is_with heads contents n few is lt = grind (arith, common_steps, is_with_all, length_heads, head_at, with_at)
