-- What a crash may leave of the first lines of a run, one line after the other.
use Rattle.face.proofs.Names.{◌≡◌, inl, inr, ⊎_elim, ℕ, zero, suc, ◌+◌, ◌≤◌, List, [], ◌∷◌, ◌++◌, length, take, drop, refl, sym, ◌∙◌, ap, subst, arith, append_assoc, take-append-drop, cases_lt, append-nil, length-take-le, take_all, take-take, Run, answered, first_lines, step, state_at, listing_at, IsFront, LeavesAnswer, StandsAt, StandsFor, IsLeft, IsToldOf, first_texts, text_at, texts, StandsNear, Line, commits_among, whole_texts, State, CacheLine, open_text, reply_text, in_sequence, leaves_weaker, Leaves, LeavesOnly, Site, Image, Snapshot, Geometry}
use Rattle.face.proofs.Fronts.{lines_first, state_first, text_first, told_first}
use Rattle.face.proofs.Longer.{left_all, run_with}
use Rattle.face.proofs.Ranges.{IsFault, IsPart, is_left, near_after, near_before}
use Rattle.face.proofs.Runs.{below, state_next, text_next, texts_count, told_more}

-- what is left of the first lines is left of more
pub left_more : (run : Run) (i n : ℕ) (so_far fault : List ℕ) (s : Snapshot) → i ≤ n → IsFault fault → IsLeft (first_lines run i) so_far fault s → IsLeft (first_lines run n) so_far fault s
left_more run i n so_far fault s le is_fault l =
    let more = drop i (take n run.lines) in
    let same : take i run.lines ++ more ≡ take n run.lines = ap (λ (x : List Line). x ++ more) (sym (take-take i n run.lines le)) ∙ take-append-drop i (take n run.lines) in
    subst (λ (x : List Line). IsLeft (run_with run.geometry run.opening run.listings x) so_far fault s) same (left_all run.geometry run.opening run.listings (take i run.lines) more so_far fault s is_fault l)

-- and of all
pub left_whole : (g : Geometry) (opening : State) (listings : List (List CacheLine)) (lines : List Line) (n : ℕ) (so_far fault : List ℕ) (s : Snapshot) → IsFault fault → IsLeft (first_lines (run_with g opening listings lines) n) so_far fault s → IsLeft (run_with g opening listings lines) so_far fault s
left_whole g opening listings lines n so_far fault s is_fault l =
    subst (λ (x : List Line). IsLeft (run_with g opening listings x) so_far fault s) (take-append-drop n lines) (left_all g opening listings (take n lines) (drop n lines) so_far fault s is_fault l)

-- Before the first line.

-- no more than the opening was told
pub left_first : (run : Run) (told : List ℕ) → IsToldOf (first_lines run 0) [] told → IsFront told (open_text run.opening.commits)
left_first run told (inl front) = (front.0, front.1 ∙ ap (take front.0) (append-nil (open_text run.opening.commits)))
left_first run told (inr behind) = whole behind.0 behind.1 (behind.3 ∙ ap (λ (l : List ℕ). first_texts (first_lines run 0) behind.0 ++ l) (behind.4.1 ∙ take_all behind.4.0 [] (omega arith)) ∙ append-nil (first_texts (first_lines run 0) behind.0))
  where
    whole : (n : ℕ) → n ≤ length (texts (first_lines run 0)) → told ≡ first_texts (first_lines run 0) n → IsFront told (open_text run.opening.commits)
    whole zero few is = (0, is)
    whole (suc zero) few is = (length (open_text run.opening.commits), is ∙ append-nil (open_text run.opening.commits) ∙ sym (take_all (length (open_text run.opening.commits)) (open_text run.opening.commits) (omega arith)))
    whole (suc (suc n)) few is = let one : length (texts (first_lines run 0)) ≡ 1 = refl in absurd (omega (arith, few, one))

-- and no commit was made
pub none_among : (n k : ℕ) → k ≤ commits_among n [] → k ≡ 0
none_among zero k few = let none : k ≤ 0 = few in omega (arith, none)
none_among (suc n) k few = let none : k ≤ 0 = few in omega (arith, none)

pub left_none : (run : Run) (so_far fault : List ℕ) (s : Snapshot) (l : IsLeft (first_lines run 0) so_far fault s) → l.k ≡ 0
left_none run so_far fault s l = none_among (whole_texts l.told (texts (first_lines run 0))) l.k l.in_range.at_most

-- So many lines are answered.
module _ (run : Run) (n : ℕ) (enough : n ≤ length (answered run)) where
  abbrev front : Run
  front = first_lines run n

  pub front_count : length (texts front) ≡ suc n
  front_count = texts_count front ∙ ap (λ (l : List Line). suc (length l)) (lines_first run n) ∙ ap suc (length-take-le n (answered run) enough)

  pub stands_first : (i : ℕ) (image : Image) → i ≤ n → StandsAt run i image → StandsAt front i image
  stands_first i image le stands = subst (λ (x : State). StandsFor run.geometry image x) (sym (state_first run n i le)) stands

  -- the table after a line stands near the texts up to its own
  pub first_before : (i : ℕ) (image : Image) → i ≤ n → StandsAt run i image → StandsNear front (suc i) image
  first_before i image le stands = near_before front i image (stands_first i image le stands)

  -- and up to that of the line before
  pub first_after : (i : ℕ) (image : Image) → i ≤ n → StandsAt run i image → StandsNear front i image
  first_after i image le stands = near_after front i image (stands_first i image le stands)

  -- between two texts, and within one
  module _ (so_far : List ℕ) (s : Snapshot) where
    pub between : (whole : ℕ) → whole ≤ n + 1 → s.told ≡ so_far ++ first_texts run whole → StandsNear front whole s.image → IsLeft front so_far [] s
    between whole le told stands =
        let long = front_count in
        is_left front so_far [] s (inl refl) whole (omega (arith, le, long)) [] (inr (0, refl))
        (told ∙ ap (λ (l : List ℕ). so_far ++ l) (sym (told_first run n whole le) ∙ sym (append-nil (first_texts front whole)))) stands

    pub within : (i k : ℕ) → i ≤ n → s.told ≡ (so_far ++ first_texts run i) ++ take k (text_at run i) → StandsAt run i s.image → IsLeft front so_far [] s
    within i k le told stands =
        let long = front_count in
        let text = text_at run i in
        ⊎_elim
        (λ part.
        let own : IsPart (take k text) (text_at front i) = subst (IsPart (take k text)) (sym (text_first run n i le)) (k, part, refl) in
        is_left front so_far [] s (inl refl) i (omega (arith, le, long)) (take k text) (inl (omega (arith, le, long), own))
        (told ∙ append_assoc so_far (first_texts run i) (take k text) ∙ ap (λ (l : List ℕ). so_far ++ (l ++ take k text)) (sym (told_first run n i (omega (arith, le))))) (first_after i s.image le stands))
        (λ all. between (suc i) (omega (arith, le))
        (told ∙ ap (λ (l : List ℕ). (so_far ++ first_texts run i) ++ l) (take_all k text all) ∙ append_assoc so_far (first_texts run i) text ∙ ap (λ (l : List ℕ). so_far ++ l) (sym (told_more run i (omega (arith, le, enough)))))
        (first_before i s.image le stands))
        (cases_lt k (length text))

-- the moments of an answer are those of the run
pub answer_more : (run : Run) (so_far : List ℕ) (i : ℕ) (line : Line) (rest : List Line) (entry mid new : Site) → drop i (answered run) ≡ line ∷ rest → mid.told ≡ so_far ++ first_texts run (suc i)
    → LeavesOnly entry mid (IsLeft (first_lines run i) so_far [])
    → LeavesOnly mid new (LeavesAnswer run.geometry (state_at run i) (step (state_at run i) line (listing_at run i)).after (reply_text (step (state_at run i) line (listing_at run i)).reply) mid.told)
    → LeavesOnly entry new (IsLeft (first_lines run (suc i)) so_far [])
answer_more run so_far i line rest entry mid new is told before after =
    let enough : suc i ≤ length (answered run) = below (answered run) i line rest is in
    in_sequence entry mid new (Leaves (IsLeft (first_lines run (suc i)) so_far []))
    (leaves_weaker entry mid (IsLeft (first_lines run i) so_far []) (IsLeft (first_lines run (suc i)) so_far []) (λ s l. left_more run i (suc i) so_far [] s (omega arith) (inl refl) l) before)
    (leaves_weaker mid new (LeavesAnswer run.geometry (state_at run i) (step (state_at run i) line (listing_at run i)).after (reply_text (step (state_at run i) line (listing_at run i)).reply) mid.told) (IsLeft (first_lines run (suc i)) so_far []) (λ s a. ⊎_elim
    (λ old. between run (suc i) enough so_far s (suc i) (omega arith) (old.1 ∙ told) (first_before run (suc i) enough i s.image (omega arith) old.0))
    (λ done. within run (suc i) enough so_far s (suc i) a.front.0 (omega arith)
    (a.front.1 ∙ (λ j. told j ++ take a.front.0 (sym (text_next run i line rest is) j)))
    (subst (λ (b : State). StandsFor run.geometry s.image b) (sym (state_next run i line rest is)) done))
    a.stands) after)
