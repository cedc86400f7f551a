-- What each snapshot has on flash and disk, by the lines that were begun by what it has.
use Rattle.face.proofs.Names.{◌≡◌, ℕ, suc, ◌+◌, List, [], ◌∷◌, ◌++◌, take, Option, sym, ◌∙◌, ap, subst, arith, append_assoc, add-one, drop_at, take-take, AllByRecursion, Master, HasMadeBefore, LeavesAnswer, Run, first_lines, turns_of, AsksNoMore, IsLeft, WritesAsBegun, cache_by, first_texts, staged_by_run, HasToldBefore, WritesAsTold, WritesSoFar, opening_text, HearsOnly, LogRecord, WritesOnly, Line, State, calm, each_both, each_weaker, in_sequence, leaves_weaker, now_same, tell_leaves, told_is, EachMoment, Leaves, LeavesOnly, Site, Image, Moment, Snapshot, TellsPart, Geometry}
use Rattle.page_store.specs.Caching.{next_group}
use Rattle.face.proofs.Fronts.{first_same, other, told_same}

-- what each moment of two runs has, each of the second has
all_later : (Q : Moment → Type 0) (xs ys : List Moment) → AllByRecursion Q (xs ++ ys) → AllByRecursion Q ys
all_later Q [] ys a = a
all_later Q (x ∷ xs) ys a = all_later Q xs ys a.1

later_moments : (a b c : Site) (Q R S : Moment → Type 0) → EachMoment a b R → EachMoment b c S → EachMoment a c Q → EachMoment b c Q
later_moments a b c Q R S first second all = grind (arith, append_assoc, drop_at, all_later)

-- what holds of each snapshot, whatever is told behind what it has told, holds still where something is told
pub leaves_told : (P : Snapshot → Type 0) → ((told more : List ℕ) (image : Image) → P (record { told = told; image = image }) → P (record { told = told ++ more; image = image })) → (piece : List ℕ) (old mid new : Site) → LeavesOnly old mid P → EachMoment mid new (TellsPart piece mid) → LeavesOnly old new P
leaves_told P more piece old mid new first tells =
    let Q = λ (image : Image). P (record { told = mid.told; image = image }) in
    in_sequence old mid new (Leaves P) first
    (leaves_weaker mid new (λ s. ((k : ℕ) × (s.told ≡ mid.told ++ take k piece)) × Q s.image) P
    (λ s p. subst (λ (t : List ℕ). P (record { told = t; image = s.image })) (sym p.0.1) (more mid.told (take p.0.0 piece) s.image p.1))
    (tell_leaves Q piece mid new (λ s left. subst (λ (t : List ℕ). P (record { told = t; image = s.image })) (told_is mid s left) (first.now s left)) tells))

-- of octets that were told, with more behind them
more_behind : (so_far text told more : List ℕ) → (rest : List ℕ) × (told ≡ so_far ++ (text ++ rest)) → (rest : List ℕ) × (told ++ more ≡ so_far ++ (text ++ rest))
more_behind so_far text told more is =
    (is.0 ++ more, ap (λ (l : List ℕ). l ++ more) is.1 ∙ append_assoc so_far (text ++ is.0) more ∙ ap (λ (l : List ℕ). so_far ++ l) (append_assoc text is.0 more))

-- more is told behind what was told of a load
pub made_behind : (run : Run) (so_far : List ℕ) (begun : ℕ) (told more : List ℕ) (image : Image) → HasMadeBefore run so_far begun (record { told = told; image = image }) → HasMadeBefore run so_far begun (record { told = told ++ more; image = image })
made_behind run so_far begun told more image m = record { opened = λ any. more_behind so_far (opening_text run) told more (m.opened any); k = m.k; made = m.made; stands = m.stands }

-- the pages of a snapshot by the first lines of a run
abbrev OnlyBy : ℕ → Run → ℕ → Option Master → List (List LogRecord) → Site → Snapshot → Type 0
OnlyBy pool run n newest blocks old s = WritesOnly run.geometry (staged_by_run pool run (turns_of (first_lines run n)) newest old.image blocks) (next_group (cache_by pool run (turns_of (first_lines run n)) newest old.image blocks)) old.image s.image

-- by whatever it is told how many lines were begun
module _ (pool : ℕ) (run : Run) (HasBegunBy : ℕ → Snapshot → Type 0) where
  -- none
  pub written_none : (old new : Site) → LeavesOnly old new (HasBegunBy 0) → AsksNoMore pool (first_lines run 0) old new → WritesAsBegun pool run HasBegunBy 0 old new
  written_none old new begun asks newest blocks sound =
      let Q = OnlyBy pool run 0 newest blocks old in
      each_weaker old new (λ m. Leaves (HasBegunBy 0) m × Leaves Q m) (Leaves (WritesSoFar pool run HasBegunBy 0 newest blocks old.image)) (λ m both s may. record {
        begun = 0;
        few = omega arith;
        by = both.0 s may;
        only = both.1 s may;
      }) (each_both old new (Leaves (HasBegunBy 0)) (Leaves Q) begun (asks newest blocks sound).writes)

  -- one more, however it ends
  pub written_more : (i : ℕ) (old mid new : Site) → LeavesOnly mid new (HasBegunBy (suc i)) → AsksNoMore pool (first_lines run (suc i)) old new → WritesAsBegun pool run HasBegunBy i old mid → WritesAsBegun pool run HasBegunBy (suc i) old new
  written_more i old mid new begun asks so_far newest blocks sound =
      let O = WritesSoFar pool run HasBegunBy i newest blocks old.image in
      let P = WritesSoFar pool run HasBegunBy (suc i) newest blocks old.image in
      let B = HasBegunBy (suc i) in
      let Q = OnlyBy pool run (suc i) newest blocks old in
      let first = so_far newest blocks sound in
      let all : LeavesOnly old new Q = (asks newest blocks sound).writes in
      in_sequence old mid new (Leaves P)
      (leaves_weaker old mid O P (λ s w. (let few = w.few in record { begun = w.begun; few = omega (arith, few); by = w.by; only = w.only })) first)
      (each_weaker mid new (λ m. Leaves B m × Leaves Q m) (Leaves P) (λ m both s may. record {
        begun = suc i;
        few = omega arith;
        by = both.0 s may;
        only = both.1 s may;
      }) (each_both mid new (Leaves B) (Leaves Q) begun (later_moments old mid new (Leaves Q) (Leaves O) (Leaves B) first begun all)))

  -- something is told, while nothing is written
  pub written_behind : ((begun : ℕ) (told more : List ℕ) (image : Image) → HasBegunBy begun (record { told = told; image = image }) → HasBegunBy begun (record { told = told ++ more; image = image })) → (n : ℕ) (piece : List ℕ) (old mid new : Site) → EachMoment mid new (TellsPart piece mid)
      → WritesAsBegun pool run HasBegunBy n old mid → WritesAsBegun pool run HasBegunBy n old new
  written_behind behind n piece old mid new tells so_far newest blocks sound =
      leaves_told (WritesSoFar pool run HasBegunBy n newest blocks old.image) (λ told more image w. record { begun = w.begun; few = w.few; by = behind w.begun told more image w.by; only = w.only }) piece old mid new (so_far newest blocks sound) tells

module _ (pool : ℕ) (run : Run) where
  -- restart, and the opening
  pub written_opened : (old new : Site) → LeavesOnly old new (IsLeft (first_lines run 0) old.told []) → AsksNoMore pool (first_lines run 0) old new → WritesAsTold pool run 0 old new
  written_opened old new left asks =
      let P = IsLeft (first_lines run 0) old.told [] in
      written_none pool run (HasToldBefore run old.told) old new (leaves_weaker old new P (HasToldBefore run old.told 0) (λ s l. (l.told, l.told_is)) left) asks

  -- something is heard
  pub written_heard : (n : ℕ) (old mid new : Site) → HearsOnly mid new → WritesAsTold pool run n old mid → WritesAsTold pool run n old new
  written_heard n old mid new same so_far newest blocks sound = grind (arith, calm, now_same)

  -- or told, while nothing is written
  pub written_told : (n : ℕ) (piece : List ℕ) (old mid new : Site) → EachMoment mid new (TellsPart piece mid) → WritesAsTold pool run n old mid → WritesAsTold pool run n old new
  written_told n piece old mid new = written_behind pool run (HasToldBefore run old.told) (λ begun told more image is. more_behind old.told (first_texts run begun) told more is) n piece old mid new

  -- a line more, however its answer ends
  pub written_answered : {g : Geometry} {before after : State} {text : List ℕ} (i : ℕ) (old mid new : Site) → mid.told ≡ old.told ++ first_texts run (i + 1) → LeavesOnly mid new (LeavesAnswer g before after text mid.told) → AsksNoMore pool (first_lines run (suc i)) old new → WritesAsTold pool run i old mid →
      WritesAsTold pool run (suc i) old new
  written_answered {g} {before} {after} {text} i old mid new told leaves asks so_far =
      let told_suc : mid.told ≡ old.told ++ first_texts run (suc i) = told ∙ ap (λ (n : ℕ). old.told ++ first_texts run n) (add-one i) in
      written_more pool run (HasToldBefore run old.told) i old mid new (leaves_weaker mid new (LeavesAnswer g before after text mid.told) (HasToldBefore run old.told (suc i)) (λ s a. (
        take a.front.0 text,
        a.front.1 ∙ ap (λ (l : List ℕ). l ++ take a.front.0 text) told_suc ∙ append_assoc old.told (first_texts run (suc i)) (take a.front.0 text),
      )) leaves) asks so_far

  -- of another run with the same first lines
  pub written_same : (lines : List Line) (n : ℕ) (same : take n lines ≡ take n run.lines) (old new : Site) → WritesAsTold pool run n old new → WritesAsTold pool (other run lines n same) n old new
  written_same lines n same old new w newest blocks sound =
      leaves_weaker old new (WritesSoFar pool run (HasToldBefore run old.told) n newest blocks old.image) (WritesSoFar pool (other run lines n same) (HasToldBefore (other run lines n same) old.told) n newest blocks old.image) (λ s w.
      (let few = w.few in
      let b = w.begun in
      let front : take b lines ≡ take b run.lines = sym (take-take b n lines few) ∙ ap (take b) same ∙ take-take b n run.lines few in
      record {
        begun = b;
        few = few;
        by = (w.by.0, w.by.1 ∙ ap (λ (l : List ℕ). old.told ++ (l ++ w.by.0)) (sym (told_same run lines n same b (omega (arith, few)))));
        only = subst (λ (r : Run). WritesOnly run.geometry (staged_by_run pool run (turns_of r) newest old.image blocks) (next_group (cache_by pool run (turns_of r) newest old.image blocks)) old.image s.image) (sym (first_same run lines b front)) w.only;
      })) (w newest blocks sound)
