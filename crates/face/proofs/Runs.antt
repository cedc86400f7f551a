-- One line more of a run.
use Rattle.face.proofs.Names.{◌≡◌, ℕ, zero, suc, ◌<◌, List, [], ◌∷◌, ◌++◌, length, take, drop, get_or, refl, sym, ◌∙◌, ap, arith, append_assoc, flat_map, map, append-nil, length-map, length-take-le, lines_at, Run, answered, step, after_lines, first_lines, state_at, listings_left, listing_at, turns_of, first_texts, text_at, texts, Line, Turn, turn, replies, next_listing, later_listings, listings_after, State, CacheLine, Reply, reply_lines, reply_text}
use Rattle.face.proofs.Fronts.{lines_first, text_first}
use Rattle.face.proofs.Turns.{next_turn, turns_count}

-- what stands behind the first lines
after_more : (b : State) (lines : List Line) (ls : List (List CacheLine)) (i : ℕ) (line : Line) (rest : List Line) → drop i lines ≡ line ∷ rest →
    after_lines b (take (suc i) lines) ls ≡ (step (after_lines b (take i lines) ls) line (next_listing (listings_after (take i lines) ls))).after
after_more b [] ls zero line rest is = cc
after_more b [] ls (suc i) line rest is = cc
after_more b (x ∷ lines) ls zero line rest is = let same : x ≡ line = cc in ap (λ l. (step b l (next_listing ls)).after) same
after_more b (x ∷ lines) ls (suc i) line rest is = after_more (step b x (next_listing ls)).after lines (later_listings x ls) i line rest is

left_more : (lines : List Line) (ls : List (List CacheLine)) (i : ℕ) (line : Line) (rest : List Line) → drop i lines ≡ line ∷ rest → listings_after (take (suc i) lines) ls ≡ later_listings line (listings_after (take i lines) ls)
left_more [] ls zero line rest is = cc
left_more [] ls (suc i) line rest is = cc
left_more (x ∷ lines) ls zero line rest is = let same : x ≡ line = cc in ap (λ l. later_listings l ls) same
left_more (x ∷ lines) ls (suc i) line rest is = left_more lines (later_listings x ls) i line rest is

pub below : {X : Type 0} (xs : List X) (i : ℕ) (x : X) (rest : List X) → drop i xs ≡ x ∷ rest → i < length xs
below [] zero x rest is = cc
below [] (suc i) x rest is = cc
below (y ∷ xs) zero x rest is = omega arith
below (y ∷ xs) (suc i) x rest is = let less = below xs i x rest is in omega (arith, less)

joined_more : (xs : List (List ℕ)) (i : ℕ) → i < length xs → flat_map (λ (x : List ℕ). x) (take (suc i) xs) ≡ flat_map (λ (x : List ℕ). x) (take i xs) ++ get_or xs i []
joined_more [] i less = absurd (omega (arith, less))
joined_more (x ∷ xs) zero less = append-nil x
joined_more (x ∷ xs) (suc i) less = ap (λ (l : List ℕ). x ++ l) (joined_more xs i (omega (arith, less))) ∙ sym (append_assoc x (flat_map (λ (x : List ℕ). x) (take i xs)) (get_or xs i []))

-- what a last turn tells
last_of : {X : Type 0} (f : Reply → X) (none : X) (first : List Turn) (t : Turn) (i : ℕ) → length first ≡ i → get_or (map f (replies (first ++ t ∷ []))) i none ≡ f t.reply
last_of f none [] t zero long = refl
last_of f none [] t (suc i) long = absurd (omega (arith, long))
last_of f none (x ∷ first) t zero long = absurd (omega (arith, long))
last_of f none (x ∷ first) t (suc i) long = last_of f none first t i (omega (arith, long))

module _ (run : Run) where
  pub texts_count : length (texts run) ≡ suc (length (answered run))
  texts_count = ap suc (length-map (replies (turns_of run)) reply_text ∙ length-map (turns_of run) (λ (t : Turn). t.reply) ∙ turns_count run.opening run.lines run.listings)

  pub told_more : (i : ℕ) → i < suc (length (answered run)) → first_texts run (suc i) ≡ first_texts run i ++ text_at run i
  told_more i less = joined_more (texts run) i (let long = texts_count in omega (arith, less, long))

  -- a line of the run
  module _ (i : ℕ) (line : Line) (rest : List Line) (is : drop i (answered run) ≡ line ∷ rest) where
    pub state_next : state_at run (suc i) ≡ (step (state_at run i) line (listing_at run i)).after
    state_next = after_more run.opening (answered run) run.listings i line rest is

    -- the turn that it makes
    abbrev pub turn_at : Turn
    turn_at = turn (state_at run i) line (listing_at run i)

    pub turns_next : turns_of (first_lines run (suc i)) ≡ turns_of (first_lines run i) ++ turn_at ∷ []
    turns_next = next_turn run.opening run.lines run.listings i line rest is

    turns_long : length (turns_of (first_lines run i)) ≡ i
    turns_long = grind (arith, below, turns_count, lines_first, length-take-le)

    pub text_next : text_at run (suc i) ≡ reply_text (step (state_at run i) line (listing_at run i)).reply
    text_next =
        sym (text_first run (suc i) (suc i) (omega arith))
        ∙ ap (λ (l : List Turn). get_or (map reply_text (replies l)) i []) turns_next
        ∙ last_of reply_text [] (turns_of (first_lines run i)) turn_at i turns_long

    pub lines_next : lines_at (first_lines run (suc i)) (suc i) ≡ reply_lines (step (state_at run i) line (listing_at run i)).reply
    lines_next = ap (λ (l : List Turn). get_or (map reply_lines (replies l)) i []) turns_next ∙ last_of reply_lines [] (turns_of (first_lines run i)) turn_at i turns_long

    pub left_next : listings_left run (suc i) ≡ later_listings line (listings_left run i)
    left_next = left_more (answered run) run.listings i line rest is
