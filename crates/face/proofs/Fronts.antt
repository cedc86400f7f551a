-- Two runs whose first lines are the same.
use Rattle.face.proofs.Names.{◌≡◌, ℕ, suc, ◌+◌, ◌≤◌, Bool, true, false, List, [], ◌∷◌, ◌++◌, length, take, get_or, refl, sym, ◌∙◌, ap, subst, arith, append_assoc, flat_map, map, if◌then◌else◌, ◌||◌, ◌==◌, or_right, append-nil, take_all, take-take, take-map, get_or-take, AllByRecursion, list_any, Run, answered, after_lines, first_lines, state_at, turns_of, HasBegun, first_texts, text_at, texts, IsAnswered, NobodyWaits, AnswersFirst, IsEarly, answered_of, commands_of, up_to_quit, Line, is_quit, left_by, line_of, Site, Take}
use Rattle.shell_text.specs.Runs.{lines_of, in_front}
use Rattle.face.proofs.Turns.{first_answered, first_turns, left_are, turns_count}

-- A run, and the run over its first lines.
module _ (run : Run) (n : ℕ) where
  pub turns_first : turns_of (first_lines run n) ≡ take n (turns_of run)
  turns_first = first_turns n run.opening run.lines run.listings

  pub lines_first : answered (first_lines run n) ≡ take n (answered run)
  lines_first = first_answered n run.lines

  texts_first : texts (first_lines run n) ≡ take (suc n) (texts run)
  texts_first = grind (arith, turns_first, take-map)

  pub told_first : (w : ℕ) → w ≤ n + 1 → first_texts (first_lines run n) w ≡ first_texts run w
  told_first w le = ap (flat_map (λ (x : List ℕ). x)) (ap (take w) texts_first ∙ take-take w (suc n) (texts run) (omega (arith, le)))

  pub text_first : (w : ℕ) → w ≤ n → text_at (first_lines run n) w ≡ text_at run w
  text_first w le = ap (λ (l : List (List ℕ)). get_or l w []) texts_first ∙ get_or-take (suc n) (texts run) w [] (omega (arith, le))

  pub state_first : (w : ℕ) → w ≤ n → state_at (first_lines run n) w ≡ state_at run w
  state_first w le = ap (λ (l : List Line). after_lines run.opening l run.listings) (ap (take w) lines_first ∙ take-take w n (answered run) le)

  -- the state after them, by their turns
  pub state_by_turns : state_at run n ≡ left_by run.opening (turns_of (first_lines run n))
  state_by_turns = sym (left_are run.opening (take n run.lines) run.listings ∙ ap (λ (l : List Line). after_lines run.opening l run.listings) lines_first)

  -- where these are all of its lines its turns are theirs
  pub whole_turns : length (answered run) ≤ n → turns_of (first_lines run n) ≡ turns_of run
  whole_turns few = let long = turns_count run.opening run.lines run.listings in turns_first ∙ take_all n (turns_of run) (omega (arith, long, few))

-- Two runs with the same first lines.

abbrev with_lines : Run → List Line → Run
with_lines run lines = record { geometry = run.geometry; opening = run.opening; lines = lines; listings = run.listings }

module _ (run : Run) (lines : List Line) (n : ℕ) (same : take n lines ≡ take n run.lines) where
  abbrev pub other : Run
  other = record { geometry = run.geometry; opening = run.opening; lines = lines; listings = run.listings }

  pub first_same : first_lines other n ≡ first_lines run n
  first_same = ap (with_lines run) same

  pub told_same : (w : ℕ) → w ≤ n + 1 → first_texts other w ≡ first_texts run w
  told_same w le = sym (told_first other n w le) ∙ ap (λ (r : Run). first_texts r w) first_same ∙ told_first run n w le

  pub text_same : (w : ℕ) → w ≤ n → text_at other w ≡ text_at run w
  text_same w le = sym (text_first other n w le) ∙ ap (λ (r : Run). text_at r w) first_same ∙ text_first run n w le

  -- what was begun of the one was begun of the other, and a front of a fault line is told behind it
  pub begun_same : (old mid now : Site) (fault : List ℕ) (k : ℕ) → now.told ≡ mid.told ++ take k fault → n ≤ length (answered other) → HasBegun run n [] old mid → HasBegun other n fault old now
  begun_same old mid now fault k more enough b =
      let first : first_texts run n ≡ first_texts other n = sym (told_same n (omega arith)) in
      let text : text_at run n ≡ text_at other n = sym (text_same n (omega arith)) in
      let none : b.rest ≡ [] = b.front.1 ∙ take_all b.front.0 [] (omega arith) in
      record {
        few = let count = turns_count run.opening lines run.listings in omega (arith, count, enough);
        reply = b.reply;
        part = (b.part.0, b.part.1 ∙ ap (take b.part.0) text);
        rest = take k fault;
        front = (k, refl);
        told = more ∙ ap (λ (l : List ℕ). l ++ take k fault) b.told
            ∙ append_assoc old.told (first_texts run n ++ (b.reply ++ b.rest)) (take k fault)
            ∙ ap (λ (l : List ℕ). old.told ++ l) (append_assoc (first_texts run n) (b.reply ++ b.rest) (take k fault)
            ∙ (λ i. first i ++ ((b.reply ++ none i) ++ take k fault)) ∙ ap (λ (l : List ℕ). first_texts other n ++ (l ++ take k fault)) (append-nil b.reply));
      }

  -- nobody waits in the other where no more lines stood whole than these
  pub waits_same : (old new : Site) → AnswersFirst run n old new → NobodyWaits other old new
  waits_same old new answers = record {
    takes = answers.waits.takes;
    are = answers.waits.are;
    answered = both answers.waits.takes answers.waits.answered answers.early;
  }
    where
      own : (t : Take) → IsAnswered run old t → IsEarly n old t → IsAnswered other old t
      own t a early =
          let whole = length (answered_of false (take a.heard old.input.left)) in
          let few = early a.heard a.here in
          record {
            heard = a.heard;
            here = a.here;
            told = subst (λ (l : List ℕ). length (old.told ++ l) ≤ t.told) (sym (told_same (1 + whole) (omega (arith, few)))) a.told;
            going = a.going;
          }

      both : (takes : List Take) → AllByRecursion (IsAnswered run old) takes → AllByRecursion (IsEarly n old) takes → AllByRecursion (IsAnswered other old) takes
      both [] a early = tt
      both (t ∷ takes) a early = (own t a.0 early.0, both takes a.1 early.1)

-- Lines that are answered.

-- where none of them quits, all of them are answered, and those behind them up to a quit
pub up_append : (ls rest : List Line) → AllByRecursion (λ l. is_quit l ≡ false) ls → up_to_quit (ls ++ rest) ≡ ls ++ up_to_quit rest
up_append [] rest none = refl
up_append (l ∷ ls) rest none = (λ i. l ∷ (if none.0 i then [] else up_to_quit (ls ++ rest))) ∙ ap (λ (x : List Line). l ∷ x) (up_append ls rest none.1)

pub none_quit : (ls : List Line) → AllByRecursion (λ l. is_quit l ≡ false) ls → list_any is_quit ls ≡ false
none_quit [] none = refl
none_quit (l ∷ ls) none = λ i. none.0 i || none_quit ls none.1 i

pub some_quit : (ls : List Line) (line : Line) (rest : List Line) → is_quit line ≡ true → list_any is_quit (ls ++ line ∷ rest) ≡ true
some_quit [] line rest is = λ i. is i || list_any is_quit rest
some_quit (l ∷ ls) line rest is = or_right (is_quit l) (list_any is_quit (ls ++ line ∷ rest)) (some_quit ls line rest is)

pub no_quits : (ls : List Line) → list_any is_quit ls ≡ false → AllByRecursion (λ l. is_quit l ≡ false) ls
no_quits [] none = tt
no_quits (l ∷ ls) none = let both = or_false (is_quit l) (list_any is_quit ls) none in (both.0, no_quits ls both.1)
  where
    or_false : (a b : Bool) → (a || b) ≡ false → (a ≡ false) × (b ≡ false)
    or_false true b is = cc
    or_false false b is = (refl, is)

-- The lines that stand whole in some octets are the first ones, whatever comes behind them.

front_lines : (e : Bool) (x : ℕ) (ls rest all : List (List ℕ)) → all ≡ ls ++ rest → (more : List (List ℕ)) × (in_front e x all ≡ in_front false x ls ++ more)
front_lines e x [] rest all is = (in_front e x all, refl)
front_lines e x (l ∷ ls) rest all is = (rest, ap (in_front e x) is)

chosen_lines : (b : Bool) (e : Bool) (x : ℕ) (ls rest all : List (List ℕ)) → all ≡ ls ++ rest → (more : List (List ℕ)) × ((if b then [] ∷ all else in_front e x all) ≡ (if b then [] ∷ ls else in_front false x ls) ++ more)
chosen_lines true e x ls rest all is = (rest, ap (λ (l : List (List ℕ)). [] ∷ l) is)
chosen_lines false e x ls rest all is = front_lines e x ls rest all is

cut_first : (e : Bool) (a b : List ℕ) → (more : List (List ℕ)) × (lines_of e (a ++ b) ≡ lines_of false a ++ more)
cut_first e [] b = (lines_of e b, refl)
cut_first e (x ∷ a) b = let rest = cut_first e a b in chosen_lines (x == 10) e x (lines_of false a) rest.0 (lines_of e (a ++ b)) rest.1

map_append : (xs ys : List (List ℕ)) → map line_of (xs ++ ys) ≡ map line_of xs ++ map line_of ys
map_append [] ys = refl
map_append (x ∷ xs) ys = ap (λ (l : List Line). line_of x ∷ l) (map_append xs ys)

pub first_commands : (e : Bool) (a b : List ℕ) → (more : List Line) × (commands_of e (a ++ b) ≡ commands_of false a ++ more)
first_commands e a b = let lines = cut_first e a b in (map line_of lines.0, ap (map line_of) lines.1 ∙ map_append (lines_of false a) lines.0)
