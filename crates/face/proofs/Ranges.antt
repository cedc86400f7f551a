-- What was told whole, counted; and the commits that it allows.
use Rattle.face.proofs.Names.{◌≡◌, ◌⊎◌, inl, inr, ⊎_elim, ℕ, zero, suc, ◌+◌, ◌-◌, ◌≤◌, ◌<◌, Bool, true, false, List, [], ◌∷◌, ◌++◌, length, take, drop, get_or, refl, sym, ◌∙◌, ap, arith, append_assoc, length-append, take-append-drop, flat_map, map, count_by, nat_eq, false_from_ne_true, Decides-eqb, drop_at, length-take-le, take_all, take_at, starts_with, Run, answered, step, after_lines, state_at, StandsAt, IsFront, turns_of, texts, text_at, first_texts, run_text, all_commits, StandsAfter, IsToldOf, IsLeft, StandsNear, fault_line, Halt, Line, Turn, replies, next_listing, later_listings, whole_texts, is_committed, commit_marks, commits_among, after_commits, State, Outcome, CacheLine, Reply, open_text, reply_text, Snapshot, Image}
use Rattle.std.proofs.lemmas.Slice.Eq.{starts_is}
use Rattle.std.proofs.lemmas.Grind.{common_steps}
use Rattle.record_model.specs.Laws.{IsCountedIn, IsCountedAt}
use Rattle.record_model.proofs.StepLaws.{commits_once}
use Rattle.record_model.proofs.RunLaws.{commits_make_the_table}
use Rattle.record_model.specs.declared.words.CacheLine.TheVariants.{Frame, Pool}
use Rattle.face.proofs.Turns.{states_are, turns_count}
use Rattle.face.proofs.Runs.{texts_count}
use Rattle.record_model.specs.declared.words.Reply.TheVariants as reply

-- not all of a text
abbrev pub IsPart : List ℕ → List ℕ → Type 0
IsPart rest text = (k : ℕ) × (k < length text) × (rest ≡ take k text)

-- a fault line, or none
abbrev pub IsFault : List ℕ → Type 0
IsFault fault = (fault ≡ []) ⊎ ((h : Halt) × (fault ≡ fault_line h))

begins : (text rest : List ℕ) → starts_with nat_eq (text ++ rest) text ≡ true
begins text rest = (starts_is Decides-eqb (text ++ rest) text (starts_with nat_eq (text ++ rest) text) refl).1 rest refl

-- a list that no list goes on to doesn't begin so
pub begins_not : (told text : List ℕ) → ((rest : List ℕ) → told ≡ text ++ rest → ⊥) → starts_with nat_eq told text ≡ false
begins_not told text none = false_from_ne_true (starts_with nat_eq told text) (λ yes. none (drop (length text) told) ((starts_is Decides-eqb told text (starts_with nat_eq told text) refl).0 yes))

-- the whole texts are counted
pub counts : (xs : List (List ℕ)) (w : ℕ) (rest : List ℕ) → w ≤ length xs → (w < length xs → starts_with nat_eq rest (get_or xs w []) ≡ false) → whole_texts (flat_map (λ (x : List ℕ). x) (take w xs) ++ rest) xs ≡ w
counts [] zero rest le un = grind arith
counts [] (suc w) rest le un = grind arith
counts (x ∷ xs) zero rest le un = grind arith
counts (x ∷ xs) (suc w) rest le un = grind (arith, append_assoc, begins, drop_at, (counts xs w rest (omega (arith, le)) (λ less. un (omega (arith, less)))))

-- the first two octets of a text aren't those of a fault line
pub record Plain (text : List ℕ) : Type 0 where
  pub first : ℕ
  pub second : ℕ
  pub more : List ℕ
  pub is : text ≡ first ∷ second ∷ more
  pub other : (first ≡ 102) → (second ≡ 97) → ⊥

pub plain_text : (r : Reply) → Plain (reply_text r)
plain_text (reply.Value value) = grind arith
plain_text reply.Nothing = grind arith
plain_text (reply.Committed count) = grind arith
plain_text reply.Done = grind arith
plain_text reply.Aborted = grind arith
plain_text (reply.Back count) = grind arith
plain_text reply.Checked = grind arith
plain_text (reply.Items []) = grind arith
plain_text (reply.Items (item ∷ items)) = grind arith
plain_text (reply.Listing []) = grind arith
plain_text (reply.Listing (Frame group index page valid dirty referenced ∷ lines)) = grind arith
plain_text (reply.Listing (Pool page changed ∷ lines)) = grind arith
plain_text (reply.Stat stat) = grind arith
plain_text reply.Bye = grind arith
plain_text (reply.Busy session) = grind arith
plain_text (reply.Full used owed cap) = grind arith
plain_text (reply.PageFull page need) = grind arith
plain_text (reply.Refused why) = grind arith

pub plain_opening : (n : ℕ) → Plain (open_text n)
plain_opening n = record { first = 111; second = 112; more = _; is = refl; other = λ a b. omega (arith, a) }

-- a text of the run
pub plain_replies : (ts : List Turn) (i : ℕ) → i < length (map reply_text (replies ts)) → Plain (get_or (map reply_text (replies ts)) i [])
plain_replies [] i less = absurd (omega (arith, less))
plain_replies (t ∷ ts) zero less = plain_text t.reply
plain_replies (t ∷ ts) (suc i) less = plain_replies ts i (omega (arith, less))

pub plain_texts : (run : Run) (i : ℕ) → i < length (texts run) → Plain (text_at run i)
plain_texts run zero less = plain_opening run.opening.commits
plain_texts run (suc i) less = plain_replies (turns_of run) i (omega (arith, less))

-- a fault line is none, or begins with fa
fault_begins : (h : Halt) → (fault_line h ≡ []) ⊎ ((more : List ℕ) × (fault_line h ≡ 102 ∷ 97 ∷ more))
fault_begins x0 = grind arith

no_front : (a b : ℕ) (more rest more' : List ℕ) (k : ℕ) → take k (102 ∷ 97 ∷ more') ≡ (a ∷ b ∷ more) ++ rest → (a ≡ 102) × (b ≡ 97)
no_front a b more rest more' zero is = cc
no_front a b more rest more' (suc zero) is = cc
no_front a b more rest more' (suc (suc k)) is = (cc, cc)

not_empty : (a b : ℕ) (more rest : List ℕ) (k : ℕ) → take k [] ≡ (a ∷ b ∷ more) ++ rest → ⊥
not_empty a b more rest zero is = cc
not_empty a b more rest (suc k) is = cc

pub not_in_fault : (text fault rest : List ℕ) → Plain text → IsFault fault → IsFront rest fault → (more : List ℕ) → rest ≡ text ++ more → ⊥
not_in_fault text fault rest p is front more e = grind (arith, not_empty, begins, no_front, fault_begins)

-- commits never fall

rises : (s : State) (o : Outcome) → IsCountedIn s o → (b : Bool) → is_committed o.reply ≡ b → s.commits ≤ o.after.commits
rises s o h true is = let one = (h.committed is).1 in omega (arith, one)
rises s o h false is = let same = (h.others is).1 in omega (arith, same)

step_up : (s : State) (line : Line) (listing : List CacheLine) → s.commits ≤ (step s line listing).after.commits
step_up s line listing = rises s (step s line listing) (commits_once s line listing) _ refl

one_up : (s : State) (lines : List Line) (ls : List (List CacheLine)) (i : ℕ) → (after_lines s (take i lines) ls).commits ≤ (after_lines s (take (suc i) lines) ls).commits
one_up s [] ls zero = omega arith
one_up s [] ls (suc i) = omega arith
one_up s (line ∷ lines) ls zero = step_up s line (next_listing ls)
one_up s (line ∷ lines) ls (suc i) = one_up (step s line (next_listing ls)).after lines (later_listings line ls) i

module _ (run : Run) where
  abbrev marks : List Bool
  marks = commit_marks (turns_of run)

  counted : (i : ℕ) → IsCountedAt run.opening (turns_of run) i
  counted i = commits_make_the_table run.opening run.lines run.listings i

  commits_are : (i : ℕ) → (state_at run i).commits ≡ run.opening.commits + commits_among i marks
  commits_are i = ap (λ (s : State). s.commits) (sym (states_are run.opening run.lines run.listings i)) ∙ (counted i).commits

  table_is : (i : ℕ) → (state_at run i).table ≡ after_commits run.opening.table (turns_of run) (commits_among i marks)
  table_is i = ap (λ (s : State). s.table) (sym (states_are run.opening run.lines run.listings i)) ∙ (counted i).table

  -- the table after some lines is the one after some commits
  pub stands_after : (i : ℕ) (image : Image) → StandsAt run i image → StandsAfter run (commits_among i marks) image
  stands_after i image stands = grind (arith, commits_are, table_is)

  among_up : (i : ℕ) → commits_among i marks ≤ commits_among (suc i) marks
  among_up i = let up = one_up run.opening (answered run) run.listings i in let one = commits_are i in let two = commits_are (suc i) in omega (arith, up, one, two)

  near_up : (whole : ℕ) → commits_among (whole - 1) marks ≤ commits_among whole marks
  near_up x0 = grind (arith, among_up)

  length-marks : length marks ≡ length (answered run)
  length-marks = grind (arith, common_steps, turns_count)

  -- after all lines all commits are made
  pub all_among : commits_among (length (answered run)) marks ≡ all_commits run
  all_among = ap (count_by (λ (mark : Bool). mark)) (take_all (length (answered run)) marks (let same = length-marks in omega (arith, same)))

  pub all_text : first_texts run (length (answered run) + 1) ≡ run_text run
  all_text = grind (arith, texts_count, take_all)

  -- what is told of the texts, as a front of all of them
  text_split : (xs : List (List ℕ)) (w : ℕ) → w < length xs → flat_map (λ (x : List ℕ). x) xs ≡ flat_map (λ (x : List ℕ). x) (take w xs) ++ (get_or xs w [] ++ flat_map (λ (x : List ℕ). x) (drop (suc w) xs))
  text_split [] w less = absurd (omega (arith, less))
  text_split (x ∷ xs) zero less = refl
  text_split (x ∷ xs) (suc w) less = ap (λ (l : List ℕ). x ++ l) (text_split xs w (omega (arith, less))) ∙ sym (append_assoc x (flat_map (λ (x : List ℕ). x) (take w xs)) _)

  -- the devices stand near the texts that were told whole: for the table after the lines of all but the last of them
  pub near_before : (i : ℕ) (image : Image) → StandsAt run i image → StandsNear run (suc i) image
  near_before i image stands =
      let same : suc i - 1 ≡ i = omega arith in
      (commits_among i marks, (let low = ap (λ (n : ℕ). commits_among n marks) same in omega (arith, low)), among_up i, stands_after i image stands)

  -- or for that after the next line too
  pub near_after : (i : ℕ) (image : Image) → StandsAt run i image → StandsNear run i image
  near_after i image stands = (commits_among i marks, near_up i, omega arith, stands_after i image stands)

  -- So many texts are told whole, and behind them a part of the next one, or of a fault line.
  module _ (so_far fault : List ℕ) (s : Snapshot) (is_fault : IsFault fault) (whole : ℕ) (few : whole ≤ length (texts run)) (rest : List ℕ) (part : ((whole < length (texts run)) × IsPart rest (text_at run whole)) ⊎ IsFront rest fault) where
    abbrev told : List ℕ
    told = first_texts run whole ++ rest

    whole_is : whole_texts told (texts run) ≡ whole
    whole_is =
        counts (texts run) whole rest few (λ less. begins_not rest (text_at run whole) (λ more e.
        ⊎_elim (λ p. short rest (text_at run whole) more p.1 e) (λ front. not_in_fault (text_at run whole) fault rest (plain_texts run whole less) is_fault front more e) part))
      where
        short : (rest text more : List ℕ) → IsPart rest text → rest ≡ text ++ more → ⊥
        short rest text more part e =
            let one : length rest ≡ length text + length more = ap length e ∙ length-append text more in
            let two : length rest ≡ part.0 = ap length part.2 ∙ length-take-le part.0 text (let less = part.1 in omega (arith, less)) in
            let less = part.1 in omega (arith, one, two, less)

    is_told : IsToldOf run fault told
    is_told = ⊎_elim
        (λ p.
        let text = text_at run whole in
        let more = flat_map (λ (x : List ℕ). x) (drop (suc whole) (texts run)) in
        let k = p.1.0 in
        let parted : text ≡ rest ++ drop k text = sym (take-append-drop k text) ∙ ap (λ (l : List ℕ). l ++ drop k text) (sym p.1.2) in
        let all : run_text run ≡ told ++ (drop k text ++ more) =
        text_split (texts run) whole p.0
        ∙ ap (λ (l : List ℕ). first_texts run whole ++ (l ++ more)) parted
        ∙ ap (λ (l : List ℕ). first_texts run whole ++ l) (append_assoc rest (drop k text) more)
        ∙ sym (append_assoc (first_texts run whole) rest (drop k text ++ more)) in
        inl (length told, sym (ap (take (length told)) all ∙ take_at told (drop k text ++ more) (length told) refl)))
        (λ front. inr (whole, few, rest, refl, front))
        part

    -- what is left then is in the range of what was told
    pub is_left : s.told ≡ so_far ++ (first_texts run whole ++ rest) → StandsNear run whole s.image → IsLeft run so_far fault s
    is_left is stands = grind (arith, is_told, whole_is)
