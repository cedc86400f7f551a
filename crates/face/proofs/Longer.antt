-- A run over the first lines, beside the run over all of them.
use Rattle.std.proofs.lemmas.Grind.{flat_map-append}
use Rattle.face.proofs.Names.{◌≡◌, ◌⊎◌, inl, inr, ⊎_elim, ℕ, zero, suc, ◌+◌, ◌-◌, ◌≤◌, ◌<◌, Bool, true, false, List, [], ◌∷◌, ◌++◌, length, map, take, drop, get_or, refl, sym, ◌∙◌, ap, subst, arith, append_assoc, length-append, take-append-drop, flat_map, nat_eq, if◌then◌else◌, ◌||◌, cases_lt, append-nil, length-map, length-take-le, map-append, take_all, take_at, get_or_append_left, get_or-append_right, take-append-le, length-filter, list_any, starts_with, filter, Stands, IsFront, Run, turns_of, IsLeft, IsToldOf, first_texts, run_of, run_text, texts, HeardAll, commands_of, IsInRange, Line, Turn, after_commits, commit_marks, commits_among, is_committed, is_quit, later_listings, next_listing, replies, turn, turns, whole_texts, committed_tables, Content, State, CacheLine, open_text, reply_text, Snapshot, Geometry}
use Rattle.std.proofs.lemmas.List.Elements.{filter-append}
use Rattle.face.proofs.Fronts.{first_commands}
use Rattle.face.proofs.Ranges.{IsFault, IsPart, Plain, begins_not, counts, not_in_fault, plain_replies, plain_texts}

-- Turns.

front_turn : (b : Bool) (t : Turn) (all front : List Turn) → (later : List Turn) × (all ≡ front ++ later) → (later : List Turn) × ((t ∷ (if b then [] else all)) ≡ (t ∷ (if b then [] else front)) ++ later)
front_turn true t all front rest = ([], refl)
front_turn false t all front rest = (rest.0, ap (λ (l : List Turn). t ∷ l) rest.1)

pub turns_front : (s : State) (xs more : List Line) (ls : List (List CacheLine)) → (later : List Turn) × (turns s (xs ++ more) ls ≡ turns s xs ls ++ later)
turns_front s [] more ls = (turns s more ls, refl)
turns_front s (x ∷ xs) more ls =
    let first = turn s x (next_listing ls) in
    front_turn (is_quit x) first _ _ (turns_front first.after xs more (later_listings x ls))

quit_turn : (b rest : Bool) (t : Turn) (all front : List Turn) → (b || rest) ≡ true → (rest ≡ true → all ≡ front) → (t ∷ (if b then [] else all)) ≡ (t ∷ (if b then [] else front))
quit_turn true rest t all front is same = refl
quit_turn false rest t all front is same = ap (λ (l : List Turn). t ∷ l) (same is)

-- behind a quit none counts
turns_quit : (s : State) (xs more : List Line) (ls : List (List CacheLine)) → list_any is_quit xs ≡ true → turns s (xs ++ more) ls ≡ turns s xs ls
turns_quit s [] more ls is = absurd cc
turns_quit s (x ∷ xs) more ls is =
    let first = turn s x (next_listing ls) in
    quit_turn (is_quit x) (list_any is_quit xs) first _ _ is (turns_quit first.after xs more (later_listings x ls))

-- Fronts of lists.

pub front_more : (told all more : List ℕ) → IsFront told all → IsFront told (all ++ more)
front_more told all more front =
    let parted : all ≡ told ++ drop front.0 all = sym (take-append-drop front.0 all) ∙ ap (λ (l : List ℕ). l ++ drop front.0 all) (sym front.1) in
    let whole : all ++ more ≡ told ++ (drop front.0 all ++ more) = ap (λ (l : List ℕ). l ++ more) parted ∙ append_assoc told (drop front.0 all) more in
    (length told, sym (ap (take (length told)) whole ∙ take_at told (drop front.0 all ++ more) (length told) refl))

abbrev marked : List Bool → ℕ
marked marks = length (filter (λ (mark : Bool). mark) marks)

among_is : (w : ℕ) (marks : List Bool) → commits_among w marks ≡ marked (take w marks)
among_is w marks = sym (length-filter (λ (mark : Bool). mark) (take w marks))

among_more : (w : ℕ) (a b : List Bool) → marked (take w a) ≤ marked (take w (a ++ b))
among_more zero a b = omega arith
among_more (suc w) [] b = omega arith
among_more (suc w) (true ∷ a) b = let few = among_more w a b in omega (arith, few)
among_more (suc w) (false ∷ a) b = among_more w a b

among_all : (w : ℕ) (a : List Bool) → marked (take w a) ≤ marked a
among_all zero a = omega arith
among_all (suc w) [] = omega arith
among_all (suc w) (true ∷ a) = let few = among_all w a in omega (arith, few)
among_all (suc w) (false ∷ a) = among_all w a

marks_count : (ts : List Turn) → marked (commit_marks ts) ≡ length (filter (λ (t : Turn). is_committed t.reply) ts)
marks_count [] = grind arith
marks_count (t ∷ ts) = grind (arith, (marks_count ts))

-- Texts.

-- How what was told is made of texts: so many of them whole, and a rest that no further text stands in front of.
record Parts (xs : List (List ℕ)) (told : List ℕ) : Type 0 where
  whole : ℕ
  few : whole ≤ length xs
  rest : List ℕ
  told_is : told ≡ flat_map (λ (x : List ℕ). x) (take whole xs) ++ rest
  within : whole < length xs → starts_with nat_eq rest (get_or xs whole []) ≡ false
  behind : whole ≡ length xs → (text : List ℕ) → Plain text → starts_with nat_eq rest text ≡ false

-- a front of all texts
record FrontParts (xs : List (List ℕ)) (told : List ℕ) : Type 0 where
  whole : ℕ
  few : whole ≤ length xs
  rest : List ℕ
  told_is : told ≡ flat_map (λ (x : List ℕ). x) (take whole xs) ++ rest
  within : whole < length xs → IsPart rest (get_or xs whole [])
  behind : whole ≡ length xs → rest ≡ []

take_behind : (x rest : List ℕ) (k : ℕ) → length x ≤ k → take k (x ++ rest) ≡ x ++ take (k - length x) rest
take_behind [] rest k le = grind arith
take_behind (y ∷ x) rest zero le = grind arith
take_behind (y ∷ x) rest (suc k) le = grind (arith, (take_behind x rest k (omega (arith, le))))

front_parts : (xs : List (List ℕ)) (k : ℕ) → FrontParts xs (take k (flat_map (λ (x : List ℕ). x) xs))
front_parts [] k = record { whole = 0; few = omega arith; rest = []; told_is = take_all k [] (omega arith); within = λ less. absurd (omega (arith, less)); behind = λ e. refl }
front_parts (x ∷ xs) k = by (cases_lt k (length x)) (front_parts xs (k - length x))
  where
    by : (k < length x) ⊎ (length x ≤ k) → FrontParts xs (take (k - length x) (flat_map (λ (x : List ℕ). x) xs)) → FrontParts (x ∷ xs) (take k (flat_map (λ (x : List ℕ). x) (x ∷ xs)))
    by (inl less) rest = record {
      whole = 0;
      few = omega arith;
      rest = take k x;
      told_is = take-append-le k x (flat_map (λ (x : List ℕ). x) xs) (omega (arith, less));
      within = λ some. (k, less, refl);
      behind = λ e. absurd (omega (arith, e));
    }
    by (inr le) rest = record {
      whole = suc rest.whole;
      few = let few = rest.few in omega (arith, few);
      rest = rest.rest;
      told_is = take_behind x (flat_map (λ (x : List ℕ). x) xs) k le ∙ ap (λ (l : List ℕ). x ++ l) rest.told_is ∙ sym (append_assoc x (flat_map (λ (x : List ℕ). x) (take rest.whole xs)) rest.rest);
      within = λ less. rest.within (omega (arith, less));
      behind = λ e. rest.behind (omega (arith, e));
    }

short : (rest text more : List ℕ) → IsPart rest text → rest ≡ text ++ more → ⊥
short rest text more part e =
    let one : length rest ≡ length text + length more = ap length e ∙ length-append text more in
    let two : length rest ≡ part.0 = ap length part.2 ∙ length-take-le part.0 text (let less = part.1 in omega (arith, less)) in
    let less = part.1 in omega (arith, one, two, less)

nothing_begins : (text more : List ℕ) → Plain text → [] ≡ text ++ more → ⊥
nothing_begins text more p e = grind (arith, p)

-- what was told of a run has such parts
parts : (run : Run) (fault told : List ℕ) → IsFault fault → IsToldOf run fault told → Parts (texts run) told
parts run fault told is_fault (inl front) =
    let p = front_parts (texts run) front.0 in
    record {
      whole = p.whole;
      few = p.few;
      rest = p.rest;
      told_is = front.1 ∙ p.told_is;
      within = λ less. begins_not p.rest _ (λ more e. short p.rest _ more (p.within less) e);
      behind = λ end text plain. begins_not p.rest text (λ more e. nothing_begins text more plain (sym (p.behind end) ∙ e));
    }
parts run fault told is_fault (inr behind) = record {
  whole = behind.0;
  few = behind.1;
  rest = behind.2;
  told_is = behind.3;
  within = λ less. begins_not behind.2 _ (λ more e. not_in_fault _ fault behind.2 (plain_texts run behind.0 less) is_fault behind.4 more e);
  behind = λ end text plain. begins_not behind.2 text (λ more e. not_in_fault text fault behind.2 plain is_fault behind.4 more e);
}

counted : (xs : List (List ℕ)) (told : List ℕ) (p : Parts xs told) → whole_texts told xs ≡ p.whole
counted xs told p = ap (λ (l : List ℕ). whole_texts l xs) p.told_is ∙ counts xs p.whole p.rest p.few p.within

-- as many texts stand whole in it with further ones behind them
counted_more : (xs ys : List (List ℕ)) (told : List ℕ) (p : Parts xs told) → ((i : ℕ) → i < length ys → Plain (get_or ys i [])) → whole_texts told (xs ++ ys) ≡ p.whole
counted_more xs ys told p plain =
    let few = p.few in
    let long = length-append xs ys in
    ap (λ (l : List ℕ). whole_texts l (xs ++ ys)) (p.told_is ∙ ap (λ (l : List (List ℕ)). flat_map (λ (x : List ℕ). x) l ++ p.rest) (sym (take-append-le p.whole xs ys few)))
    ∙ counts (xs ++ ys) p.whole p.rest (omega (arith, few, long)) (λ less. ⊎_elim
    (λ inside. ap (starts_with nat_eq p.rest) (get_or_append_left xs ys [] p.whole inside) ∙ p.within inside)
    (λ beyond.
    let end : p.whole ≡ length xs = omega (arith, few, beyond) in
    let there : get_or (xs ++ ys) p.whole [] ≡ get_or ys (p.whole - length xs) [] = get_or-append_right xs ys (length xs) p.whole [] refl beyond in
    ap (starts_with nat_eq p.rest) there ∙ p.behind end _ (plain (p.whole - length xs) (omega (arith, less, long, beyond)))) (cases_lt p.whole (length xs)))

abbrev pub run_with : Geometry → State → List (List CacheLine) → List Line → Run
run_with g opening listings lines = record { geometry = g; opening = opening; lines = lines; listings = listings }

-- A run over lines, and over further ones behind them.
module _ (g : Geometry) (opening : State) (listings : List (List CacheLine)) (xs more : List Line) where
  abbrev pub first : Run
  first = run_with g opening listings xs

  abbrev pub all : Run
  all = run_with g opening listings (xs ++ more)

  abbrev later : List Turn
  later = (turns_front opening xs more listings).0

  split : turns_of all ≡ turns_of first ++ later
  split = (turns_front opening xs more listings).1

  texts_split : texts all ≡ texts first ++ map reply_text (replies later)
  texts_split = grind (arith, split, map-append)

  marks_split : commit_marks (turns_of all) ≡ commit_marks (turns_of first) ++ commit_marks later
  marks_split = ap commit_marks split ∙ map-append (λ (t : Turn). is_committed t.reply) (turns_of first) later

  tables_split : committed_tables (turns_of all) ≡ committed_tables (turns_of first) ++ committed_tables later
  tables_split = grind (arith, split, filter-append, map-append)

  text_split : run_text all ≡ run_text first ++ flat_map (λ (x : List ℕ). x) (map reply_text (replies later))
  text_split = ap (flat_map (λ (x : List ℕ). x)) texts_split ∙ flat_map-append (λ (x : List ℕ). x) (texts first) (map reply_text (replies later))

  pub told_all : (fault told : List ℕ) → IsToldOf first fault told → IsToldOf all fault told
  told_all fault told (inl front) = inl (subst (IsFront told) (sym text_split) (front_more told (run_text first) _ front))
  told_all fault told (inr behind) =
      let few = behind.1 in
      let long = ap length texts_split ∙ length-append (texts first) (map reply_text (replies later)) in
      let same : first_texts all behind.0 ≡ first_texts first behind.0 = ap (λ (l : List (List ℕ)). flat_map (λ (x : List ℕ). x) (take behind.0 l)) texts_split ∙ ap (flat_map (λ (x : List ℕ). x)) (take-append-le behind.0 (texts first) (map reply_text (replies later)) few) in
      inr (behind.0, omega (arith, few, long), behind.2, behind.3 ∙ ap (λ (l : List ℕ). l ++ behind.2) (sym same), behind.4)

  module _ (fault told : List ℕ) (is_fault : IsFault fault) (is_told : IsToldOf first fault told) where
    p : Parts (texts first) told
    p = parts first fault told is_fault is_told

    one : whole_texts told (texts first) ≡ p.whole
    one = counted (texts first) told p

    two : whole_texts told (texts all) ≡ p.whole
    two = ap (whole_texts told) texts_split ∙ counted_more (texts first) (map reply_text (replies later)) told p (plain_replies later)

    long : length (texts first) ≡ suc (length (commit_marks (turns_of first)))
    long = grind (arith, length-map)

    before : (p.whole - 1) ≤ length (commit_marks (turns_of first))
    before = let few = p.few in omega (arith, few, long)

    pub range_all : (k : ℕ) → IsInRange told (texts first) (commit_marks (turns_of first)) k → IsInRange told (texts all) (commit_marks (turns_of all)) k
    range_all k r = grind (arith, p, one, marks_split, take-append-le, before, among_more, among_is, split, two)

    pub table_all : (k : ℕ) → IsInRange told (texts first) (commit_marks (turns_of first)) k → after_commits opening.table (turns_of first) k ≡ after_commits opening.table (turns_of all) k
    table_all k r = grind (arith, p, one, among_is, among_all, marks_count, length-map, tables_split, get_or_append_left)

  -- what is left of the first lines is left of all
  pub left_all : (so_far fault : List ℕ) (s : Snapshot) → IsFault fault → IsLeft first so_far fault s → IsLeft all so_far fault s
  left_all so_far fault s is_fault l = record {
    told = l.told;
    told_is = l.told_is;
    is_told = told_all fault l.told l.is_told;
    k = l.k;
    in_range = range_all fault l.told is_fault l.is_told l.k l.in_range;
    stands = subst (λ (t : List Content). Stands g s.image t (opening.commits + l.k)) (table_all fault l.told is_fault l.is_told l.k l.in_range) l.stands;
  }

  -- behind a quit no line counts
  pub text_quit : list_any is_quit xs ≡ true → run_text all ≡ run_text first
  text_quit quits = ap (λ (l : List Turn). flat_map (λ (x : List ℕ). x) (open_text opening.commits ∷ map reply_text (replies l))) (turns_quit opening xs more listings quits)

-- The lines of the octets that were taken are the first ones of all.
pub lines_longer : (ended : Bool) (whole octets left : List ℕ) → whole ≡ octets ++ left → (ended ≡ true → left ≡ []) → (more : List Line) × (commands_of true whole ≡ commands_of ended octets ++ more)
lines_longer true whole octets left taken end = ([], ap (commands_of true) (taken ∙ ap (λ (l : List ℕ). octets ++ l) (end refl) ∙ append-nil octets) ∙ sym (append-nil (commands_of true octets)))
lines_longer false whole octets left taken end = let first = first_commands true octets left in (first.0, ap (commands_of true) taken ∙ first.1)

-- where the input was heard to its end, or to a quit, they tell as much
pub all_heard : (g : Geometry) (opening : State) (listings : List (List CacheLine)) (ended : Bool) (whole octets left : List ℕ) → whole ≡ octets ++ left → (ended ≡ true → left ≡ []) → HeardAll ended octets →
    run_text (run_of g opening true whole listings) ≡ run_text (run_of g opening ended octets listings)
all_heard g opening listings ended whole octets left taken end (inl is) =
    ap (λ (l : List ℕ). run_text (run_of g opening true l listings)) (taken ∙ ap (λ (l : List ℕ). octets ++ l) (end is) ∙ append-nil octets)
    ∙ ap (λ (b : Bool). run_text (run_of g opening b octets listings)) (sym is)
all_heard g opening listings ended whole octets left taken end (inr quits) =
    let longer = lines_longer ended whole octets left taken end in
    ap (λ (l : List Line). run_text (run_with g opening listings l)) longer.1
    ∙ text_quit g opening listings (commands_of ended octets) longer.0 quits
