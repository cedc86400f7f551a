-- The lines of a listing, one by one.
use Rattle.std.proofs.lemmas.Grind.{common_steps}
use Rattle.page_store.proofs.Names.{◌≡◌, ℕ, suc, ◌+◌, List, [], ◌∷◌, ◌++◌, Bool, length, take, map, Some, arith, refl, sym, ap, ◌∙◌, append_assoc, append-nil, length-take-le, slice_get_within, slice_get, mark_of, Frame as Page, Mark, pool_page, CacheLine, PoolPage, frame_lines, group_lines, marks_of_groups, Known as Frame, take_next}
use Rattle.record_model.specs.declared.words.CacheLine.TheVariants as line

pub more_frames : (group index : ℕ) (xs ys : List Mark) → frame_lines group index (xs ++ ys) ≡ frame_lines group index xs ++ frame_lines group (index + length xs) ys
more_frames group index [] ys = ap (λ n. frame_lines group n ys) (let e : index ≡ index + 0 = omega arith in e)
more_frames group index (x ∷ xs) ys = grind (arith, common_steps, (more_frames group (index + 1) xs ys))

pub more_groups : (first : ℕ) (xs ys : List (List Mark)) → group_lines first (xs ++ ys) ≡ group_lines first xs ++ group_lines (first + length xs) ys
more_groups first [] ys = ap (λ n. group_lines n ys) (let e : first ≡ first + 0 = omega arith in e)
more_groups first (x ∷ xs) ys = grind (arith, common_steps, append_assoc, (more_groups (first + 1) xs ys))

pub count_marks : (groups : List (List Frame)) → length (marks_of_groups groups) ≡ length groups
count_marks [] = refl
count_marks (group ∷ later) = ap suc (count_marks later)

pub next_frame : (group group' : ℕ) (ms : List Mark) (k : ℕ) (m : Mark) (one : CacheLine) (old before after : List CacheLine) → slice_get ms k ≡ Some m → before ≡ old ++ frame_lines group 0 (take k ms) → after ≡ before ++ one ∷ []
    → group' ≡ group → one ∷ [] ≡ frame_lines group' k (m ∷ []) → after ≡ old ++ frame_lines group 0 (take (k + 1) ms)
next_frame group group' ms k m one old before after at is more same line_is =
    let count : 0 + length (take k ms) ≡ k = let less = slice_get_within ms k m at in omega (arith, length-take-le k ms (omega (arith, less))) in
    let split : frame_lines group 0 (take (k + 1) ms) ≡ frame_lines group 0 (take k ms) ++ one ∷ [] =
    ap (frame_lines group 0) (take_next ms k m at) ∙ more_frames group 0 (take k ms) (m ∷ [])
    ∙ ap (λ n. frame_lines group 0 (take k ms) ++ frame_lines group n (m ∷ [])) count ∙ ap (λ (l : List CacheLine). frame_lines group 0 (take k ms) ++ l) (sym (line_is ∙ ap (λ n. frame_lines n k (m ∷ [])) same)) in
    more ∙ ap (λ (l : List CacheLine). l ++ one ∷ []) is ∙ append_assoc old (frame_lines group 0 (take k ms)) (one ∷ []) ∙ ap (λ (l : List CacheLine). old ++ l) (sym split)

pub next_group : (first : ℕ) (all : List (List Mark)) (k : ℕ) (ms : List Mark) (old before after : List CacheLine) → slice_get all k ≡ Some ms → before ≡ old ++ group_lines first (take k all)
    → after ≡ before ++ frame_lines (first + k) 0 ms → after ≡ old ++ group_lines first (take (k + 1) all)
next_group first all k ms old before after at is more =
    let count : length (take k all) ≡ k = length-take-le k all (let less = slice_get_within all k ms at in omega (arith, less)) in
    let split : group_lines first (take (k + 1) all) ≡ group_lines first (take k all) ++ frame_lines (first + k) 0 ms =
    ap (group_lines first) (take_next all k ms at) ∙ more_groups first (take k all) (ms ∷ [])
    ∙ ap (λ n. group_lines first (take k all) ++ group_lines (first + n) (ms ∷ [])) count ∙ ap (λ (l : List CacheLine). group_lines first (take k all) ++ l) (append-nil (frame_lines (first + k) 0 ms)) in
    more ∙ ap (λ (l : List CacheLine). l ++ frame_lines (first + k) 0 ms) is ∙ append_assoc old (group_lines first (take k all)) (frame_lines (first + k) 0 ms) ∙ ap (λ (l : List CacheLine). old ++ l) (sym split)

-- the line of a page in memory
abbrev pub page_line : ℕ × Bool → CacheLine
page_line m = line.Pool m.0 m.1

pub page_lines : (frames : List Page) → map page_line (map mark_of frames) ≡ map (λ (f : Page). line.Pool f.page f.changed) frames
page_lines [] = refl
page_lines (f ∷ fs) = ap (λ (l : List CacheLine). line.Pool f.page f.changed ∷ l) (page_lines fs)

-- the pool's lines are those of the machine's pages
pub pool_lines : (frames : List Page) → map (λ (f : Page). line.Pool f.page f.changed) frames ≡ map (λ (p : PoolPage). line.Pool p.page p.changed) (map pool_page frames)
pool_lines [] = refl
pool_lines (f ∷ fs) = ap (λ (l : List CacheLine). line.Pool f.page f.changed ∷ l) (pool_lines fs)
