-- Lists of frames, each of which has a page of its own.
use Rattle.std.proofs.lemmas.Grind.{common_steps}
use Rattle.buffer_pool.proofs.Names.{◌≡◌, ◌≢◌, ℕ, ◌≤◌, List, [], ◌∷◌, ◌++◌, length, Option, None, Some, arith, refl, sym, ap, subst, ◌∙◌, eqb-true, eqb-false, ne_eqb, cond-false, none-some, AllByRecursion, AreDistinct, frame_of, without, in_front, touched, cleared_at, cleared, Frame}

-- pages that differ from one
abbrev pub Others : ℕ → List Frame → Type 0
Others page frames = AllByRecursion (λ other. page ≢ other.page) frames

all-front : (P : Frame → Type 0) (xs ys : List Frame) → AllByRecursion P (xs ++ ys) → AllByRecursion P xs
all-front P [] ys all = tt
all-front P (x ∷ xs) ys all = (all.0, all-front P xs ys all.1)

all-without : (P : Frame → Type 0) (frames : List Frame) (page : ℕ) → AllByRecursion P frames → AllByRecursion P (without frames page)
all-without P [] page all = tt
all-without P (frame ∷ frames) page all = grind (arith, common_steps, (all-without P frames page all.1))

-- a page has no frame exactly where all frames are of other pages
pub absent : (frames : List Frame) (page : ℕ) → frame_of frames page ≡ None → Others page frames
absent [] page none = tt
absent (frame ∷ frames) page none = grind (arith, common_steps, none-some, eqb-false, (absent frames page))

pub others_stay : (page : ℕ) (frames : List Frame) → Others page frames → without frames page ≡ frames
others_stay page [] all = refl
others_stay page (frame ∷ frames) all = grind (arith, common_steps, ne_eqb, (others_stay page frames all.1))

pub without-absent : (frames : List Frame) (page : ℕ) → frame_of frames page ≡ None → without frames page ≡ frames
without-absent frames page none = others_stay page frames (absent frames page none)

pub touched-absent : (frames : List Frame) (page : ℕ) → frame_of frames page ≡ None → touched frames page ≡ frames
touched-absent frames page none = ap (λ found. in_front found (without frames page)) none ∙ without-absent frames page none

-- the page of the frame that is found
pub frame_page : (frames : List Frame) (page : ℕ) (frame : Frame) → frame_of frames page ≡ Some frame → frame.page ≡ page
frame_page [] page frame found = absurd (none-some frame found)
frame_page (first ∷ frames) page frame found = grind (arith, common_steps, eqb-true, (frame_page frames page frame))

-- One frame less.

without_others : (frames : List Frame) (page : ℕ) → Others page (without frames page)
without_others [] page = tt
without_others (frame ∷ frames) page = grind (arith, common_steps, eqb-false, (without_others frames page))

pub distinct-without : (frames : List Frame) (page : ℕ) → AreDistinct frames → AreDistinct (without frames page)
distinct-without [] page distinct = tt
distinct-without (frame ∷ frames) page distinct = grind (arith, common_steps, all-without, (distinct-without frames page distinct.1))

pub length-without : (frames : List Frame) (page : ℕ) → length (without frames page) ≤ length frames
length-without [] page = omega arith
length-without (frame ∷ frames) page = grind (arith, common_steps, (length-without frames page))

pub distinct-touched : (frames : List Frame) (page : ℕ) → AreDistinct frames → AreDistinct (touched frames page)
distinct-touched frames page distinct = by (frame_of frames page) refl
  where
    by : (found : Option Frame) → frame_of frames page ≡ found → AreDistinct (in_front found (without frames page))
    by None is = distinct-without frames page distinct
    by (Some frame) is = (
      (let P : ℕ → Type 0 = λ n. Others n (without frames page) in subst P (sym (frame_page frames page frame is)) (without_others frames page)),
      distinct-without frames page distinct,
    )

pub others_marked : (page : ℕ) (frames : List Frame) → Others page frames → cleared frames page ≡ frames
others_marked page [] all = refl
others_marked page (frame ∷ frames) all = grind (arith, common_steps, cond-false, ne_eqb, (others_marked page frames all.1))

pub page-cleared_at : (page : ℕ) (frame : Frame) → (cleared_at page frame).page ≡ frame.page
page-cleared_at page frame = grind (arith, common_steps)

-- The last frame taken out.

pub distinct-front : (xs ys : List Frame) → AreDistinct (xs ++ ys) → AreDistinct xs
distinct-front [] ys distinct = tt
distinct-front (x ∷ xs) ys distinct = (all-front (λ other. x.page ≢ other.page) xs ys distinct.0, distinct-front xs ys distinct.1)
