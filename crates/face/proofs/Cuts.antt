-- The lines that were cut from the octets taken.
use Rattle.face.proofs.Names.{◌≡◌, ◌≢◌, ℕ, suc, ◌+◌, ◌-◌, ◌≤◌, List, [], ◌∷◌, ◌++◌, length, take, drop, refl, sym, ◌∙◌, ap, subst, arith, append_assoc, length-append, Bool, true, false, map, if◌then◌else◌, append-nil, take_at, drop_at, take_all, AllByRecursion, list_any, HasHeard, commands_of, up_to_quit, answered_of, limit, pending, to_hear, IsSource, HasEnded, total, HearsLine, AreLines, Source, Line, is_quit, line_of, Site, all_append}
use Rattle.shell_text.proofs.Lines.{lines_of-waits}
use Rattle.face.proofs.Fronts.{up_append, none_quit, some_quit}

-- Of the octets that were left at entry these were cut into so many lines; the others are pending or left.
pub record Cut (entry : List ℕ) (source : Source) (now : Site) (i : ℕ) : Type 0 where
  pub octets : List ℕ
  pub lines : List Line
  pub count : length lines ≡ i
  pub many : i ≤ length octets
  pub all : entry ≡ octets ++ to_hear source now
  pub are : AreLines octets lines source.ended
  pub no_quit : AllByRecursion (λ l. is_quit l ≡ false) lines
  pub ended : HasEnded source now
  pub taken : total source now ≡ length entry

pub none_pending : (source : Source) → source.from ≡ source.to → pending source ≡ []
none_pending source empty = let none : source.to - source.from ≡ 0 = omega (arith, empty) in ap (λ (n : ℕ). take n (drop source.from source.buffer)) none

-- nothing is cut yet
pub no_cut : (entry : List ℕ) (source : Source) (now : Site) → source.from ≡ source.to → source.taken ≡ 0 → source.ended ≡ false → now.input.left ≡ entry → Cut entry source now 0
no_cut entry source now empty taken going left = record {
  octets = [];
  lines = [];
  count = refl;
  many = omega arith;
  all = sym left ∙ ap (λ (l : List ℕ). l ++ now.input.left) (sym (none_pending source empty));
  are = λ more e premise. refl;
  no_quit = tt;
  ended = λ e. absurd (not_both source.ended going e);
  taken = omega (arith, taken, ap (λ (l : List ℕ). length l) left);
}
  where
    not_both : (b : Bool) → b ≡ false → b ≡ true → ⊥
    not_both b f t = cc

-- one line after others
lines_then : (a b : List ℕ) (l m : List Line) (ended : Bool) → AreLines a l false → AreLines b m ended → AreLines (a ++ b) (l ++ m) ended
lines_then a b l m ended first second more e premise = grind (arith, append_assoc)

module _ (entry : List ℕ) (source : Source) (now : Site) (i : ℕ) (cut : Cut entry source now i) (is_source : IsSource source) where
  nothing_more : source.ended ≡ true → (to_hear source now ≡ []) × (true ≡ true)
  nothing_more e = ((λ j. none_pending source (is_source.emptied e) j ++ cut.ended e j), refl)

  -- all lines of the input
  all_lines : commands_of true entry ≡ cut.lines ++ commands_of true (to_hear source now)
  all_lines = ap (commands_of true) cut.all ∙ cut.are (to_hear source now) true nothing_more

  answered_by : (ended : Bool) (octets : List ℕ) (behind : List Line) → commands_of ended octets ≡ cut.lines ++ behind → answered_of ended octets ≡ cut.lines ++ up_to_quit behind
  answered_by ended octets behind is = ap up_to_quit is ∙ up_append cut.lines behind cut.no_quit

  all_answered : answered_of true entry ≡ cut.lines ++ up_to_quit (commands_of true (to_hear source now))
  all_answered = answered_by true entry (commands_of true (to_hear source now)) all_lines

  -- those that are not cut yet
  rest_is : drop i (answered_of true entry) ≡ up_to_quit (commands_of true (to_hear source now))
  rest_is = ap (drop i) all_answered ∙ drop_at cut.lines (up_to_quit (commands_of true (to_hear source now))) i cut.count

  first_of_all : take i (commands_of true entry) ≡ cut.lines
  first_of_all = ap (take i) all_lines ∙ take_at cut.lines (commands_of true (to_hear source now)) i cut.count

  -- where these octets were taken and so many of their lines were heard
  heard_by : (octets : List ℕ) (ended : Bool) (behind : List Line) → commands_of ended octets ≡ cut.lines ++ behind → (i ≤ length (answered_of ended octets)) × (take i (commands_of ended octets) ≡ take i (commands_of true entry))
  heard_by octets ended behind is =
      let same = answered_by ended octets behind is in
      let long = ap length same ∙ length-append cut.lines (up_to_quit behind) in
      let count = cut.count in (omega (arith, long, count), ap (take i) is ∙ take_at cut.lines behind i cut.count ∙ sym first_of_all)

  -- as many octets were taken as lines were cut, at least
  pub cut_few_octets : i ≤ limit
  cut_few_octets = grind (arith, length-append)

  -- a line more
  pub cut_more : (source' : Source) (new : Site) (line : Line) → HearsLine line source.ended source'.ended (to_hear source now) (to_hear source' new) → HasEnded source' new → total source' new ≡ total source now → is_quit line ≡ false → Cut entry source' new (suc i)
  cut_more source' new line h ended same goes_on = record {
    octets = cut.octets ++ h.octets;
    lines = cut.lines ++ line ∷ [];
    count = let long = length-append cut.lines (line ∷ []) in let count = cut.count in omega (arith, long, count);
    many = let long = length-append cut.octets h.octets in let many = cut.many in let some = h.some in omega (arith, long, many, some);
    all = cut.all ∙ ap (λ (l : List ℕ). cut.octets ++ l) h.all ∙ sym (append_assoc cut.octets h.octets (to_hear source' new));
    are = lines_then cut.octets h.octets cut.lines (line ∷ []) source'.ended (subst (λ (b : Bool). AreLines cut.octets cut.lines b) h.going cut.are) h.is_line;
    no_quit = all_append (λ (l : Line). is_quit l ≡ false) cut.lines (line ∷ []) cut.no_quit (goes_on, tt);
    ended = ended;
    taken = same ∙ cut.taken;
  }

  module _ (source' : Source) (new : Site) (line : Line) (h : HearsLine line source.ended source'.ended (to_hear source now) (to_hear source' new)) (ended : HasEnded source' new) (is' : IsSource source') where
    next_is : commands_of true (to_hear source now) ≡ line ∷ commands_of true (to_hear source' new)
    next_is = ap (commands_of true) h.all ∙ h.is_line (to_hear source' new) true (λ e. ((λ j. none_pending source' (is'.emptied e) j ++ ended e j), refl))

    abbrev pub behind : List Line
    behind = if is_quit line then [] else up_to_quit (commands_of true (to_hear source' new))

    -- what comes next
    pub line_is : drop i (answered_of true entry) ≡ line ∷ behind
    line_is = rest_is ∙ ap up_to_quit next_is

    -- the octets that are taken by then
    abbrev pub taken_by : List ℕ
    taken_by = (cut.octets ++ h.octets) ++ pending source'

    own : commands_of source'.ended taken_by ≡ cut.lines ++ line ∷ commands_of source'.ended (pending source')
    own = grind (arith, lines_then, none_pending, append_assoc)

    own_answered : answered_of source'.ended taken_by ≡ cut.lines ++ line ∷ (if is_quit line then [] else up_to_quit (commands_of source'.ended (pending source')))
    own_answered = answered_by source'.ended taken_by (line ∷ commands_of source'.ended (pending source')) own

    with_line : (rest : List Line) → take (suc i) (cut.lines ++ line ∷ rest) ≡ cut.lines ++ line ∷ []
    with_line rest = ap (take (suc i)) (sym (append_assoc cut.lines (line ∷ []) rest)) ∙ take_at (cut.lines ++ line ∷ []) rest (suc i) (let long = length-append cut.lines (line ∷ []) in let count = cut.count in omega (arith, long, count))

    -- where the line was heard
    pub heard_line : (old after : Site) → old.input.left ≡ entry → after.input ≡ new.input → HasHeard (suc i) taken_by source'.ended old after
    heard_line old after at same = grind (arith, append_assoc, own_answered, length-append, own, with_line, all_lines, next_is)

    -- and where it is a quit
    pub quit_is_last : is_quit line ≡ true → (length (answered_of source'.ended taken_by) ≡ suc i) × (list_any is_quit (commands_of source'.ended taken_by) ≡ true)
    quit_is_last quits = grind (arith, own_answered, length-append, own, some_quit)

  -- the end of the input
  pub has_heard_all : (old new : Site) → old.input.left ≡ entry → to_hear source now ≡ [] → new.input.left ≡ [] → HasHeard i cut.octets true old new × (length (answered_of true cut.octets) ≡ i)
  has_heard_all old new at none left =
      let is = ap (commands_of true) (sym (append-nil cut.octets)) ∙ cut.are [] true (λ e. (refl, refl)) in
      let both = heard_by cut.octets true [] is in (
        record {
          taken = at ∙ cut.all ∙ ap (λ (l : List ℕ). cut.octets ++ l) (none ∙ sym left);
          end = λ e. left;
          enough = both.0;
          same = both.1 ∙ ap (λ (l : List ℕ). take i (commands_of true l)) (sym at);
        },
        ap length (answered_by true cut.octets [] is ∙ append-nil cut.lines) ∙ cut.count,
      )

  -- taking failed
  module _ (left : List ℕ) (octets rest : List ℕ) (none : AllByRecursion (λ x. x ≢ 10) octets) (all : to_hear source now ≡ octets ++ rest) (going : source.ended ≡ false) where
    whole : AreLines cut.octets cut.lines false
    whole = subst (λ (b : Bool). AreLines cut.octets cut.lines b) going cut.are

    no_line : commands_of false octets ≡ []
    no_line = ap (map line_of) (lines_of-waits octets none)

    -- the octets that were taken before it
    before : commands_of false (cut.octets ++ octets) ≡ cut.lines
    before = whole octets false (λ no. cc) ∙ ap (λ (l : List Line). cut.lines ++ l) no_line ∙ append-nil cut.lines

    before_count : length (answered_of false (cut.octets ++ octets)) ≡ i
    before_count = ap length (answered_by false (cut.octets ++ octets) [] (before ∙ sym (append-nil cut.lines)) ∙ append-nil cut.lines) ∙ cut.count

    before_no_quit : list_any is_quit (commands_of false (cut.octets ++ octets)) ≡ false
    before_no_quit = ap (list_any is_quit) before ∙ none_quit cut.lines cut.no_quit

    abbrev pub TakesAll : List ℕ → Type 0
    TakesAll all = (length (answered_of false (take limit all)) ≡ i) × (list_any is_quit (commands_of false (take limit all)) ≡ false)

    takes_all : (all : List ℕ) → take limit all ≡ cut.octets ++ octets → TakesAll all
    takes_all all is = (ap (λ (l : List ℕ). length (answered_of false l)) is ∙ before_count, ap (λ (l : List ℕ). list_any is_quit (commands_of false l)) is ∙ before_no_quit)

    entry_is : entry ≡ (cut.octets ++ octets) ++ rest
    entry_is = cut.all ∙ ap (λ (l : List ℕ). cut.octets ++ l) all ∙ sym (append_assoc cut.octets octets rest)

    length_is : length entry ≡ length (cut.octets ++ octets) + length rest
    length_is = ap length entry_is ∙ length-append (cut.octets ++ octets) rest

    -- at once
    pub input_failed : (old new : Site) → old.input.left ≡ entry → new.input.left ≡ left → rest ≡ left → total source now ≤ limit + length left → HasHeard i (cut.octets ++ octets) false old new × TakesAll (cut.octets ++ octets)
    input_failed old new at new_left is few =
        let both = heard_by (cut.octets ++ octets) false [] (before ∙ sym (append-nil cut.lines)) in
        let taken = cut.taken in
        let short : length (cut.octets ++ octets) ≤ limit = omega (arith, length_is, taken, few, ap length is) in (
          record {
            taken = at ∙ entry_is ∙ ap (λ (l : List ℕ). (cut.octets ++ octets) ++ l) (is ∙ sym new_left);
            end = λ no. cc;
            enough = both.0;
            same = both.1 ∙ ap (λ (l : List ℕ). take i (commands_of true l)) (sym at);
          },
          takes_all (cut.octets ++ octets) (take_all limit (cut.octets ++ octets) short),
        )

    -- or by an octet too many
    module _ (extra : ℕ) (is : rest ≡ extra ∷ left) (many : total source now ≡ limit + 1 + length left) where
      abbrev pub too_many : List ℕ
      too_many = (cut.octets ++ octets) ++ extra ∷ []

      exactly : length (cut.octets ++ octets) ≡ limit
      exactly = let taken = cut.taken in omega (arith, length_is, taken, many, ap length is)

      pub over_limit : (old new : Site) → old.input.left ≡ entry → new.input.left ≡ left → HasHeard i too_many false old new × TakesAll too_many × (length too_many ≡ limit + 1)
      over_limit old new at new_left =
          let some = whole (octets ++ extra ∷ []) false (λ no. cc) in
          let both = heard_by too_many false (commands_of false (octets ++ extra ∷ [])) (ap (commands_of false) (append_assoc cut.octets octets (extra ∷ [])) ∙ some) in (
            record {
              taken = at ∙ entry_is ∙ ap (λ (l : List ℕ). (cut.octets ++ octets) ++ l) is ∙ sym (append_assoc (cut.octets ++ octets) (extra ∷ []) left) ∙ ap (λ (l : List ℕ). too_many ++ l) (sym new_left);
              end = λ no. cc;
              enough = both.0;
              same = both.1 ∙ ap (λ (l : List ℕ). take i (commands_of true l)) (sym at);
            },
            takes_all too_many (take_at (cut.octets ++ octets) (extra ∷ []) limit exactly),
            length-append (cut.octets ++ octets) (extra ∷ []) ∙ ap (λ (n : ℕ). n + 1) exactly,
          )

-- the lines that stand whole in what was cut and in the octets of a line behind it
pub whole_before : (entry : List ℕ) (source : Source) (now : Site) (i : ℕ) (cut : Cut entry source now i) → IsSource source → (octets rest : List ℕ) → AllByRecursion (λ x. x ≢ 10) octets → to_hear source now ≡ octets ++ rest → source.ended ≡ false
    → (take (length (cut.octets ++ octets)) entry ≡ cut.octets ++ octets) × (length (answered_of false (cut.octets ++ octets)) ≡ i) × (list_any is_quit (commands_of false (cut.octets ++ octets)) ≡ false)
whole_before entry source now i cut is_source octets rest none all going = (
  ap (take (length (cut.octets ++ octets))) (entry_is entry source now i cut is_source rest octets rest none all going) ∙ take_at (cut.octets ++ octets) rest (length (cut.octets ++ octets)) refl,
  before_count entry source now i cut is_source rest octets rest none all going,
  before_no_quit entry source now i cut is_source rest octets rest none all going,
)

-- where nothing more was taken
pub cut_stays : (entry : List ℕ) (source : Source) (now new : Site) (i : ℕ) → Cut entry source now i → new.input ≡ now.input → Cut entry source new i
cut_stays entry source now new i cut left = grind arith
