-- What the record model makes of lines.
use Rattle.face.proofs.Names.{◌≡◌, ℕ, zero, suc, Bool, true, false, List, [], ◌∷◌, ◌++◌, length, take, drop, refl, ◌∙◌, ap, arith, Some, None, if◌then◌else◌, take_all, step, after_lines, up_to_quit, Line, Turn, turn, turns, is_quit, left_by, listings_after, next_listing, later_listings, model_state, State, CacheLine}
use Rattle.record_model.specs.declared.words.Command.TheVariants as command

-- the states between the turns
pub states_are : (s : State) (lines : List Line) (listings : List (List CacheLine)) (i : ℕ) → model_state (turns s lines listings) s i ≡ after_lines s (take i (up_to_quit lines)) listings
states_are s lines listings zero = refl
states_are s [] listings (suc i) = refl
states_are s (None ∷ lines) listings (suc i) = states_are s lines listings i
states_are s (Some command.Quit ∷ lines) listings (suc zero) = refl
states_are s (Some command.Quit ∷ lines) listings (suc (suc i)) = refl
states_are s (Some other ∷ lines) listings (suc i) = states_are (step s (Some other) (next_listing listings)).after lines (later_listings (Some other) listings) i

-- and one turn for each line
pub turns_count : (s : State) (lines : List Line) (listings : List (List CacheLine)) → length (turns s lines listings) ≡ length (up_to_quit lines)
turns_count s [] listings = refl
turns_count s (None ∷ lines) listings = ap suc (turns_count s lines listings)
turns_count s (Some command.Quit ∷ lines) listings = refl
turns_count s (Some other ∷ lines) listings = ap suc (turns_count (step s (Some other) (next_listing listings)).after lines (later_listings (Some other) listings))

-- the state that they leave
pub left_are : (s : State) (lines : List Line) (listings : List (List CacheLine)) → left_by s (turns s lines listings) ≡ after_lines s (up_to_quit lines) listings
left_are s [] listings = refl
left_are s (None ∷ lines) listings = left_are s lines listings
left_are s (Some command.Quit ∷ lines) listings = refl
left_are s (Some other ∷ lines) listings = left_are (step s (Some other) (next_listing listings)).after lines (later_listings (Some other) listings)

-- The first lines have the first turns, and are answered as far as they were.

none_of_none : {X : Type 0} (n : ℕ) → take {A = X} n [] ≡ []
none_of_none n = take_all n [] (omega arith)

pub first_turns : (n : ℕ) (s : State) (lines : List Line) (listings : List (List CacheLine)) → turns s (take n lines) listings ≡ take n (turns s lines listings)
first_turns zero s lines listings = grind arith
first_turns (suc n) s [] listings = grind arith
first_turns (suc n) s (line ∷ lines) listings = grind (arith, none_of_none, (first_turns n (step s line (next_listing listings)).after lines (later_listings line listings)))

pub first_answered : (n : ℕ) (lines : List Line) → up_to_quit (take n lines) ≡ take n (up_to_quit lines)
first_answered zero lines = grind arith
first_answered (suc n) [] = grind arith
first_answered (suc n) (line ∷ lines) = grind (arith, none_of_none, (first_answered n lines))

-- One line more has one turn more.

none_left : (i : ℕ) (line : Line) (rest : List Line) → drop i [] ≡ line ∷ rest → ⊥
none_left zero line rest is = cc
none_left (suc i) line rest is = cc

either_way : (b : Bool) (t : Turn) → t ∷ (if b then [] else []) ≡ t ∷ []
either_way true t = refl
either_way false t = refl

pub next_turn : (s : State) (lines : List Line) (listings : List (List CacheLine)) (i : ℕ) (line : Line) (rest : List Line) → drop i (up_to_quit lines) ≡ line ∷ rest →
    turns s (take (suc i) lines) listings
    ≡ turns s (take i lines) listings ++ turn (after_lines s (take i (up_to_quit lines)) listings) line (next_listing (listings_after (take i (up_to_quit lines)) listings)) ∷ []
next_turn s [] listings i line rest is = absurd (none_left i line rest is)
next_turn s (x ∷ lines) listings zero line rest is = let same : x ≡ line = cc in either_way (is_quit x) (turn s x (next_listing listings)) ∙ ap (λ (l : Line). turn s l (next_listing listings) ∷ []) same
next_turn s (x ∷ lines) listings (suc i) line rest is = by (is_quit x) is (next_turn (step s x (next_listing listings)).after lines (later_listings x listings) i line rest)
  where
    by : (b : Bool) → drop i (if b then [] else up_to_quit lines) ≡ line ∷ rest
        → (drop i (up_to_quit lines) ≡ line ∷ rest → turns (step s x (next_listing listings)).after (take (suc i) lines) (later_listings x listings)
        ≡ turns (step s x (next_listing listings)).after (take i lines) (later_listings x listings)
        ++ turn (after_lines (step s x (next_listing listings)).after (take i (up_to_quit lines)) (later_listings x listings)) line (next_listing (listings_after (take i (up_to_quit lines)) (later_listings x listings))) ∷ [])
        → turn s x (next_listing listings) ∷ (if b then [] else turns (step s x (next_listing listings)).after (take (suc i) lines) (later_listings x listings))
        ≡ (turn s x (next_listing listings) ∷ (if b then [] else turns (step s x (next_listing listings)).after (take i lines) (later_listings x listings)))
        ++ turn (after_lines (step s x (next_listing listings)).after (take i (if b then [] else up_to_quit lines)) (later_listings x listings)) line (next_listing (listings_after (take i (if b then [] else up_to_quit lines)) (later_listings x listings))) ∷ []
    by true is so = absurd (none_left i line rest is)
    by false is so = ap (λ (l : List Turn). turn s x (next_listing listings) ∷ l) (so is)
