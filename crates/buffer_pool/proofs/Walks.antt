-- What a walk over the cache's entries says of the frames.
use Rattle.std.proofs.lemmas.Grind.{common_steps}
use Rattle.buffer_pool.proofs.Names.{◌≡◌, ℕ, ◌<◌, ◌≤◌, Bool, cond, List, [], ◌∷◌, ◌++◌, length, map, filter, reverse, arith, refl, sym, ap, ◌∙◌, length-append, append-nil, reverse-append, take-append-le, take_all, length-take, length-map, map-append, append_assoc, filter-append, frames_in, mark_of, coldest_changed, Frame, PoolEntry}

abbrev if_changed : Frame → List Frame
if_changed frame = cond frame.changed (frame ∷ []) []

abbrev changed_frames : List Frame → List Frame
changed_frames frames = filter (λ f. f.changed) (reverse frames)

pub changed_more : (frame : Frame) (frames : List Frame) → changed_frames (frame ∷ frames) ≡ changed_frames frames ++ if_changed frame
changed_more frame frames = ap (filter (λ f. f.changed)) (reverse-append (frame ∷ []) frames) ∙ filter-append (λ f. f.changed) (reverse frames) (frame ∷ [])

one_at_most : (frame : Frame) → length (if_changed frame) ≤ 1
one_at_most frame = grind (arith, common_steps)

coldest_more : (n : ℕ) (frame : Frame) (frames : List Frame) → length (coldest_changed n frames) < n → coldest_changed n (frame ∷ frames) ≡ coldest_changed n frames ++ if_changed frame
coldest_more n frame frames few = grind (arith, common_steps, length-take, changed_more, take_all, one_at_most, length-append)

coldest_enough : (n : ℕ) (before frames : List Frame) → length (coldest_changed n frames) ≡ n → coldest_changed n (before ++ frames) ≡ coldest_changed n frames
coldest_enough n before frames enough = grind (arith, common_steps, reverse-append, filter-append, take-append-le, length-take)

abbrev numbers : List Frame → List ℕ
numbers frames = map (λ (f : Frame). f.page) frames

-- Some entries are still to be looked at, and the pages are those of the frames behind them.
pub record IsWalked (most : ℕ) (frames : List Frame) (warmer : List (ℕ × PoolEntry)) (pages : List ℕ) : Type 0 where
  pub behind : List Frame
  pub split : frames ≡ frames_in warmer ++ behind
  pub few : length pages ≤ most
  pub pages_are : pages ≡ numbers (coldest_changed most behind)

pub walk_begins : (most : ℕ) (frames : List Frame) (warmer : List (ℕ × PoolEntry)) → frames_in warmer ≡ frames → IsWalked most frames warmer []
walk_begins most frames warmer is = grind (arith, common_steps, append-nil)

walked_length : (most : ℕ) (behind : List Frame) (pages : List ℕ) → pages ≡ numbers (coldest_changed most behind) → length pages ≡ length (coldest_changed most behind)
walked_length most behind pages is = ap length is ∙ length-map (coldest_changed most behind) (λ (f : Frame). f.page)

numbers_if : (frame : Frame) → numbers (if_changed frame) ≡ cond frame.changed (frame.page ∷ []) []
numbers_if frame = grind (arith, common_steps)

pub walk_goes_on : (most : ℕ) (frames : List Frame) (warmer rest : List (ℕ × PoolEntry)) (e : ℕ × PoolEntry) (pages more : List ℕ) → IsWalked most frames warmer pages
    → warmer ≡ rest ++ e ∷ [] → (length pages ≡ most → ⊥) → more ≡ pages ++ cond e.1.changed (e.0 ∷ []) [] → IsWalked most frames rest more
walk_goes_on most frames warmer rest e pages more walked is not_enough more_is = grind (arith, common_steps, walked_length, numbers_if, map-append, coldest_more, append_assoc, length-map, length-take)

pub walk_has_enough : (most : ℕ) (frames : List Frame) (warmer : List (ℕ × PoolEntry)) (pages : List ℕ) → IsWalked most frames warmer pages → length pages ≡ most
    → pages ≡ map (λ (f : Frame). f.page) (coldest_changed most frames)
walk_has_enough most frames warmer pages walked enough = grind (arith, common_steps, walked_length, coldest_enough)

pub walk_ends : (most : ℕ) (frames : List Frame) (warmer : List (ℕ × PoolEntry)) (pages : List ℕ) → IsWalked most frames warmer pages → warmer ≡ []
    → pages ≡ map (λ (f : Frame). f.page) (coldest_changed most frames)
walk_ends most frames warmer pages walked none = grind (arith, common_steps)

-- What is told of each.

abbrev pub told : ℕ × PoolEntry → ℕ × Bool
told e = (e.0, e.1.changed)

pub marks_told : (es : List (ℕ × PoolEntry)) → map told es ≡ map mark_of (frames_in es)
marks_told [] = refl
marks_told (e ∷ es) = ap (λ (l : List (ℕ × Bool)). told e ∷ l) (marks_told es)

pub one_more_told : (all marks more : List (ℕ × Bool)) (colder rest : List (ℕ × PoolEntry)) (e : ℕ × PoolEntry) → all ≡ marks ++ map told colder → colder ≡ e ∷ rest
    → more ≡ marks ++ told e ∷ [] → all ≡ more ++ map told rest
one_more_told all marks more colder rest e is first more_is = grind (arith, common_steps, append_assoc)

pub all_told : (all marks : List (ℕ × Bool)) (colder : List (ℕ × PoolEntry)) → all ≡ marks ++ map told colder → colder ≡ [] → marks ≡ all
all_told all marks colder is none = sym (is ∙ ap (λ (l : List (ℕ × PoolEntry)). marks ++ map told l) none ∙ append-nil marks)
