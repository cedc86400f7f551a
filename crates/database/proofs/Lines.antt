-- The run that calls are, turn by turn, and its commits.
use Rattle.std.proofs.lemmas.Grind.{common_steps}
use Rattle.database.proofs.Names.{◌≡◌, ℕ, zero, suc, ◌+◌, ◌≤◌, Bool, true, false, List, [], ◌∷◌, ◌++◌, drop, Option, None, Some, refl, arith, if◌then◌else◌, Call, is_answer, lines_of, listings_of, may_commit, run_of, meaning, listing_of, IsRun, IsCountedIn, Turn, turn, turns, state_at, is_cache, is_quit, is_committed, next_listing, State, Outcome, answer, carried_through, fills_page, lacks_room, ready, refusal, outcome, step, CacheLine, Command, Reply}
use Rattle.record_model.proofs.StepLaws.{commits_once, found_is, IsNoCommit, page_refusals, refusals}

-- A turn.

-- but for the cache command, what is answered doesn't depend on a listing
same_through : (s : State) (command : Command) (listing : List CacheLine) (o : Option Reply) → is_cache (Some command) ≡ false → carried_through s command listing o ≡ carried_through s command [] o
same_through s command listing x3 other = grind (arith, common_steps)

same_outcome : (s : State) (command : Command) (listing : List CacheLine) (o : Option Reply) → is_cache (Some command) ≡ false → outcome s command listing o ≡ outcome s command [] o
same_outcome s command listing x3 other = grind (arith, common_steps, same_through)

-- the listing of a call is the first one, and it takes it away
told : (s : State) (command : Command) (listing : List CacheLine) (later : List (List CacheLine)) (b : Bool) → is_cache (Some command) ≡ b →
    step s command (next_listing ((if b then listing ∷ [] else []) ++ later)) ≡ step s command (if b then listing else [])
told s command listing later true is = refl
told s command listing later false is = same_outcome s command (next_listing later) (refusal s command) is

rest : (listing : List CacheLine) (later : List (List CacheLine)) (b : Bool) → (if b then drop 1 ((if b then listing ∷ [] else []) ++ later) else (if b then listing ∷ [] else []) ++ later) ≡ later
rest listing later true = refl
rest listing later false = refl

-- what comes of a call, as a turn
abbrev pub turn_of : State → Call → Turn
turn_of s call = let o = meaning s call.command call.before.engine in record { before = s; line = Some call.command; reply = o.reply; after = o.after }

one_turn : (s : State) (call : Call) (later : List Call) → is_quit (Some call.command) ≡ false →
    turns s (lines_of (call ∷ later)) (listings_of (call ∷ later)) ≡ turn_of s call ∷ turns (turn_of s call).after (lines_of later) (listings_of later)
one_turn s call later goes_on = grind (arith, common_steps, told, rest)

-- so the first call is the first turn, and it is the last one where it isn't answered
pub run_cons : (s : State) (call : Call) (later : List Call) (b : Bool) → is_answer call.answer ≡ b → is_quit (Some call.command) ≡ false →
    run_of s (call ∷ later) ≡ turn_of s call ∷ (if b then run_of (turn_of s call).after later else [])
run_cons s call later x3 is goes_on = grind (arith, common_steps, one_turn)

-- Commits.

-- at most one more
one_step : (s : State) (o : Outcome) (b : Bool) → is_committed o.reply ≡ b → IsCountedIn s o → (s.commits ≤ o.after.commits) × (o.after.commits ≤ s.commits + 1)
one_step s o true is counted = let more = (counted.committed is).1 in (omega (arith, more), omega (arith, more))
one_step s o false is counted = let same = (counted.others is).1 in (omega (arith, same), omega (arith, same))

turn_counts : (s : State) (t : Turn) (listing : List CacheLine) → t ≡ turn s t.line listing → (s.commits ≤ t.after.commits) × (t.after.commits ≤ s.commits + 1)
turn_counts s t listing is = grind (arith, common_steps, commits_once, one_step, (commits_once s t.line listing))

-- the count never falls
pub rises : (s : State) (run : List Turn) → IsRun s run → (i j : ℕ) → i ≤ j → (state_at run s i).commits ≤ (state_at run s j).commits
rises s run is zero zero le = omega arith
rises s [] is zero (suc j) le = omega arith
rises s (t ∷ run) is zero (suc j) le = grind (arith, common_steps, turn_counts, (rises t.after run is.2 zero j))
rises s run is (suc i) zero le = absurd (omega (arith, le))
rises s [] is (suc i) (suc j) le = omega arith
rises s (t ∷ run) is (suc i) (suc j) le = rises t.after run is.2 i j (omega (arith, le))

pub rises_by_one : (s : State) (run : List Turn) → IsRun s run → (i : ℕ) → (state_at run s (suc i)).commits ≤ (state_at run s i).commits + 1
rises_by_one s [] is zero = omega arith
rises_by_one s [] is (suc i) = omega arith
rises_by_one s (t ∷ run) is zero = (turn_counts s t is.0 is.1).1
rises_by_one s (t ∷ run) is (suc i) = rises_by_one t.after run is.2 i

-- only a commit and a set make one

chosen_reply : (b : Bool) (o p : Outcome) → is_committed o.reply ≡ false → is_committed p.reply ≡ false → is_committed (if b then o else p).reply ≡ false
chosen_reply true o p h k = h
chosen_reply false o p h k = k

answers_none : (s : State) (command : Command) (listing : List CacheLine) → may_commit command ≡ false → is_committed (answer s command listing) ≡ false
answers_none s x1 listing h = grind (arith, common_steps, found_is)

commits_none : (s : State) (command : Command) (listing : List CacheLine) (o : Option Reply) → IsNoCommit o → may_commit command ≡ false → is_committed (outcome s command listing o).reply ≡ false
unfolding IsNoCommit
commits_none s command listing (Some refused) harmless h = harmless
commits_none s command listing None harmless h = chosen_reply (lacks_room (ready s command) command) _ _ refl (through (fills_page (ready s command) command) (page_refusals (ready s command) command))
  where
    through : (o : Option Reply) → IsNoCommit o → is_committed (carried_through (ready s command) command listing o).reply ≡ false
    through (Some refused) harmless = harmless
    through None harmless = answers_none (ready s command) command listing h

pub counts_few : (s : State) (call : Call) → (turn_of s call).after.commits ≤ s.commits + (if may_commit call.command then 1 else 0)
counts_few s call = by (may_commit call.command) refl
  where
    listing : List CacheLine
    listing = if is_cache (Some call.command) then listing_of call.before.engine else []

    by : (b : Bool) → may_commit call.command ≡ b → (turn_of s call).after.commits ≤ s.commits + (if b then 1 else 0)
    by true is = (one_step s (step s call.command listing) (is_committed (step s call.command listing).reply) refl (commits_once s (Some call.command) listing)).1
    by false is = let same = ((commits_once s (Some call.command) listing).others (commits_none s call.command listing (refusal s call.command) (refusals s call.command) is)).1 in omega (arith, same)
