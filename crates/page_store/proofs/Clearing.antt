-- Pages are marked as unchanged.
use Rattle.page_store.proofs.Names.{◌≡◌, ℕ, ◌==◌, Bool, true, false, not, ◌&&◌, ◌||◌, cond, List, [], ◌∷◌, ◌++◌, map, Option, Some, None, option_map, refl, sym, ap, subst, ◌∙◌, eqb-true, eqb-false, eq-eqb, ne_eqb, AllByRecursion, list_any, IsSome, page-cleared_at, frame_of, clear, cleared_at, cleared, ClearedKeepsFrames, Frame, pool_page, cleared_all, saved, saved_page}

-- one page more is cleared
pub cleared_push : (pages : List ℕ) (page : ℕ) (frames : List Frame) → cleared_all (pages ++ page ∷ []) frames ≡ cleared (cleared_all pages frames) page
cleared_push [] page frames = refl
cleared_push (p ∷ pages) page frames = cleared_push pages page (cleared frames p)

-- the frames of pages

abbrev pub cleared_by : List ℕ → Frame → Frame
cleared_by [] frame = frame
cleared_by (page ∷ pages) frame = cleared_by pages (cleared_at page frame)

option_twice : {A B C : Type 0} (g : B → C) (f : A → B) (o : Option A) → option_map g (option_map f o) ≡ option_map (λ x. g (f x)) o
option_twice g f None = refl
option_twice g f (Some x) = refl

option_same : {A : Type 0} (o : Option A) → o ≡ option_map (λ x. x) o
option_same None = refl
option_same (Some x) = refl

pub frames_cleared : ClearedKeepsFrames → (pages : List ℕ) (frames : List Frame) (n : ℕ) → frame_of (cleared_all pages frames) n ≡ option_map (cleared_by pages) (frame_of frames n)
frames_cleared law [] frames n = option_same (frame_of frames n)
frames_cleared law (page ∷ pages) frames n =
    frames_cleared law pages (cleared frames page) n
    ∙ ap (option_map (cleared_by pages)) (law frames page n)
    ∙ option_twice (cleared_by pages) (cleared_at page) (frame_of frames n)

pub still_there : ClearedKeepsFrames → (pages : List ℕ) (frames : List Frame) (n : ℕ) → IsSome (frame_of frames n) → IsSome (frame_of (cleared_all pages frames) n)
still_there law pages frames n there = subst IsSome (sym (frames_cleared law pages frames n)) (by (frame_of frames n) there)
  where
    by : (o : Option Frame) → IsSome o → IsSome (option_map (cleared_by pages) o)
    by None there = there
    by (Some x) there = refl

-- what clearing leaves of a frame

at_content : (page : ℕ) (frame : Frame) → (cleared_at page frame).content ≡ frame.content
at_content page frame = by (frame.page == page)
  where
    by : (b : Bool) → (cond b (clear frame) frame).content ≡ frame.content
    by true = refl
    by false = refl

at_mark : (page : ℕ) (frame : Frame) → (cleared_at page frame).changed ≡ (frame.changed && not (page == frame.page))
at_mark page frame = by (frame.page == page) refl
  where
    kept : (b : Bool) → b ≡ (b && true)
    kept true = refl
    kept false = refl

    gone : (b : Bool) → false ≡ (b && false)
    gone true = refl
    gone false = refl

    by : (b : Bool) → (frame.page == page) ≡ b → (cond b (clear frame) frame).changed ≡ (frame.changed && not (page == frame.page))
    by true is = gone frame.changed ∙ sym (ap (λ b. frame.changed && not b) (eq-eqb page frame.page (sym (eqb-true _ _ is))))
    by false is = kept frame.changed ∙ sym (ap (λ b. frame.changed && not b) (ne_eqb page frame.page (λ same. eqb-false _ _ is (sym same))))

pub by_content : (pages : List ℕ) (frame : Frame) → (cleared_by pages frame).content ≡ frame.content
by_content [] frame = refl
by_content (page ∷ pages) frame = by_content pages (cleared_at page frame) ∙ at_content page frame

pub by_page : (pages : List ℕ) (frame : Frame) → (cleared_by pages frame).page ≡ frame.page
by_page [] frame = refl
by_page (page ∷ pages) frame = by_page pages (cleared_at page frame) ∙ page-cleared_at page frame

-- whether a page is among these
abbrev pub is_among : List ℕ → ℕ → Bool
is_among pages n = list_any (λ page. page == n) pages

and_both : (c p q : Bool) → ((c && not p) && not q) ≡ (c && not (p || q))
and_both true true q = refl
and_both true false q = refl
and_both false p q = refl

and_true : (c : Bool) → c ≡ (c && true)
and_true true = refl
and_true false = refl

pub by_mark : (pages : List ℕ) (frame : Frame) → (cleared_by pages frame).changed ≡ (frame.changed && not (is_among pages frame.page))
by_mark [] frame = and_true frame.changed
by_mark (page ∷ pages) frame =
    by_mark pages (cleared_at page frame)
    ∙ (λ i. at_mark page frame i && not (is_among pages (page-cleared_at page frame i)))
    ∙ and_both frame.changed (page == frame.page) (is_among pages frame.page)

pub all_cleared : (pages : List ℕ) (frames : List Frame) → cleared_all pages frames ≡ map (cleared_by pages) frames
all_cleared [] frames = same frames
  where
    same : (l : List Frame) → l ≡ map (λ (f : Frame). f) l
    same [] = refl
    same (f ∷ fs) = ap (λ (l : List Frame). f ∷ l) (same fs)
all_cleared (page ∷ pages) frames = all_cleared pages (cleared frames page) ∙ twice frames
  where
    twice : (l : List Frame) → map (cleared_by pages) (map (cleared_at page) l) ≡ map (cleared_by (page ∷ pages)) l
    twice [] = refl
    twice (f ∷ fs) = ap (λ (l : List Frame). cleared_by (page ∷ pages) f ∷ l) (twice fs)

-- the machine's pages are saved
pub pages_saved : (pages : List ℕ) (frames : List Frame) → map pool_page (cleared_all pages frames) ≡ saved (is_among pages) (map pool_page frames)
pages_saved pages frames = ap (map pool_page) (all_cleared pages frames) ∙ each frames
  where
    one : (f : Frame) → pool_page (cleared_by pages f) ≡ saved_page (is_among pages) (pool_page f)
    one f = λ i. record { page = by_page pages f i; changed = by_mark pages f i }

    each : (l : List Frame) → map pool_page (map (cleared_by pages) l) ≡ map (saved_page (is_among pages)) (map pool_page l)
    each [] = refl
    each (f ∷ fs) = λ i. one f i ∷ each fs i

-- what holds of contents holds still
pub all_contents : (P : List ℕ → Type 0) (pages : List ℕ) (frames : List Frame) → AllByRecursion (λ (f : Frame). P f.content) frames → AllByRecursion (λ (f : Frame). P f.content) (cleared_all pages frames)
all_contents P pages frames all = subst (AllByRecursion (λ (f : Frame). P f.content)) (sym (all_cleared pages frames)) (each frames all)
  where
    each : (l : List Frame) → AllByRecursion (λ (f : Frame). P f.content) l → AllByRecursion (λ (f : Frame). P f.content) (map (cleared_by pages) l)
    each [] all = tt
    each (f ∷ fs) all = (subst P (sym (by_content pages f)) all.0, each fs all.1)

-- and what holds of a page and its content
pub all_pages : (P : ℕ → List ℕ → Type 0) (pages : List ℕ) (frames : List Frame) → AllByRecursion (λ (f : Frame). P f.page f.content) frames → AllByRecursion (λ (f : Frame). P f.page f.content) (cleared_all pages frames)
all_pages P pages frames all = subst (AllByRecursion (λ (f : Frame). P f.page f.content)) (sym (all_cleared pages frames)) (each frames all)
  where
    each : (l : List Frame) → AllByRecursion (λ (f : Frame). P f.page f.content) l → AllByRecursion (λ (f : Frame). P f.page f.content) (map (cleared_by pages) l)
    each [] all = tt
    each (f ∷ fs) all = (subst (λ c. P (cleared_by pages f).page c) (sym (by_content pages f)) (subst (λ p. P p f.content) (sym (by_page pages f)) all.0), each fs all.1)
