-- Lines that ask for the listing of the cache, and lines that don't.
use Rattle.face.proofs.Names.{◌≡◌, ◌⊎◌, inl, inr, ⊎_elim, ℕ, suc, true, false, List, [], ◌∷◌, ◌++◌, drop, Option, None, Some, refl, sym, ap, ◌∙◌, if◌then◌else◌, true≢false, arith, listing_of, Engine, Run, IsAsked, step, answered, first_lines, listings_left, listing_at, state_at, turns_of, HasAnswered, ListsTheMachine, cache_by, Line, Turn, is_cache, next_listing, later_listings, State, carried_through, outcome, refusal, CacheLine, Command, Reply, Listing, listing, Site}
use Rattle.record_model.specs.declared.words.Command.TheVariants.{Cache}
use Rattle.face.proofs.Runs.{left_next, turn_at, turns_next}

-- Which lines ask for it.

pub cache_line : (line : Line) → is_cache line ≡ true → line ≡ Some Cache
cache_line None is = absurd (true≢false (sym is))
cache_line (Some Cache) is = refl
cache_line (Some other) is = absurd (true≢false (sym is))

-- it is replied what the cache lists
cache_reply : (s : State) (line : Line) (listing : List CacheLine) → is_cache line ≡ true → (step s line listing).reply ≡ Listing listing
cache_reply s line listing asks = ap (λ (x : Line). (step s x listing).reply) (cache_line line asks)

-- a command that doesn't is another one
pub never_cache : (line : Line) (command : Command) → is_cache line ≡ false → line ≡ Some command → command ≡ Cache → ⊥
never_cache line command not_cache says is = true≢false (sym (ap is_cache (says ∙ ap Some is)) ∙ not_cache)

-- what the others are answered doesn't depend on it
same_through : (s : State) (command : Command) (listing : List CacheLine) (o : Option Reply) → is_cache (Some command) ≡ false → carried_through s command listing o ≡ carried_through s command [] o
same_through s command listing (Some refused) not_cache = refl
same_through s Cache listing None not_cache = absurd (true≢false not_cache)
same_through s other listing None not_cache = refl

same_outcome : (s : State) (command : Command) (listing : List CacheLine) (o : Option Reply) → is_cache (Some command) ≡ false → outcome s command listing o ≡ outcome s command [] o
same_outcome s command listing x3 not_cache = grind (arith, same_through)

pub same_step : (s : State) (line : Line) (listing : List CacheLine) → is_cache line ≡ false → step s line listing ≡ step s line []
same_step s None listing not_cache = refl
same_step s (Some command) listing not_cache = same_outcome s command listing (refusal s command) not_cache

-- The listings of a run.

-- the one that a line asks for, if it does
abbrev pub asked : Line → List CacheLine → List (List CacheLine)
asked line listing = if is_cache line then listing ∷ [] else []

first_asked : (line : Line) (listing : List CacheLine) (later : List (List CacheLine)) → is_cache line ≡ true → next_listing (asked line listing ++ later) ≡ listing
first_asked line listing later is = λ i. next_listing ((if is i then listing ∷ [] else []) ++ later)

rest_asked : (line : Line) (listing : List CacheLine) (later : List (List CacheLine)) → later_listings line (asked line listing ++ later) ≡ later
rest_asked line listing later = grind arith

-- no turn is one of none
pub no_turn : (before later : List Turn) (t : Turn) → [] ≡ before ++ t ∷ later → ⊥
no_turn [] later t is = cc
no_turn (b ∷ before) later t is = cc

-- one of some turns and a last one
last_or_earlier : (xs : List Turn) (last : Turn) (before later : List Turn) (t : Turn) → xs ++ last ∷ [] ≡ before ++ t ∷ later → ((rest : List Turn) × (xs ≡ before ++ t ∷ rest)) ⊎ ((before ≡ xs) × (t ≡ last))
last_or_earlier [] last [] later t is = inr (refl, cc)
last_or_earlier [] last (b ∷ before) later t is = absurd (no_turn before later t cc)
last_or_earlier (x ∷ xs) last [] later t is = let same : x ≡ t = cc in inl (xs, ap (λ (y : Turn). y ∷ xs) same)
last_or_earlier (x ∷ xs) last (b ∷ before) later t is =
    let same : x ≡ b = cc in
    let rest : xs ++ last ∷ [] ≡ before ++ t ∷ later = cc in
    ⊎_elim (λ earlier. inl (earlier.0, λ i. same i ∷ earlier.1 i)) (λ own. inr (λ i. sym same i ∷ own.0 i, own.1)) (last_or_earlier xs last before later t rest)

module _ {pool : ℕ} {run : Run} {entry mid : Site} {engine : Engine} {i : ℕ} (line : Line) (later : List (List CacheLine)) (so_far : HasAnswered pool run (asked line (listing_of engine) ++ later) entry mid engine i) where
  pub is_asked : IsAsked line (listing_of engine) (listing_at run i)
  is_asked = λ asks. ap next_listing so_far.left ∙ first_asked line (listing_of engine) later asks

  module _ (rest : List Line) (at : drop i (answered run) ≡ line ∷ rest) where
    -- where the cache has done what was asked so far, the line's own is the machine's too
    pub listed_next : ListsTheMachine pool (first_lines run (suc i)) entry.image
    listed_next newest blocks sound first others t split asks = ⊎_elim
        (λ earlier. so_far.listed newest blocks sound first earlier.0 t earlier.1 asks)
        (λ own.
        let its : is_cache line ≡ true = ap (λ (u : Turn). is_cache u.line) (sym own.1) ∙ asks in
        ap (λ (u : Turn). u.reply) own.1
        ∙ cache_reply (state_at run i) line (listing_at run i) its
        ∙ ap Listing (is_asked its ∙ ap listing (so_far.paged newest blocks sound).machine)
        ∙ ap (λ (l : List Turn). Listing (listing (cache_by pool run l newest entry.image blocks))) (sym own.0))
        (last_or_earlier (turns_of (first_lines run i)) (turn_at run i line rest at) first others t (sym (turns_next run i line rest at) ∙ split))

    pub left_after : listings_left run (suc i) ≡ later
    left_after = left_next run i line rest at ∙ ap (later_listings line) so_far.left ∙ rest_asked line (listing_of engine) later
