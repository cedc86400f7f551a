-- What follows for a whole run.
use Rattle.std.proofs.lemmas.Grind.{common_steps}
use Rattle.record_model.proofs.Citing.{◌≡◌, ℕ, zero, suc, ◌+◌, ◌<◌, Bool, true, false, cond, List, [], ◌∷◌, ◌++◌, length, Some, refl, ap, sym, subst, ◌∙◌, arith, add-one, or_parts, list_any, count_by, filter, slice_index_or, slice_get, IsCountedIn, EachLineHasATurn, TurnsFollow, IsCountedAt, Line, Turn, line_step, turn, turns, state_at, is_quit, is_committed, commit_marks, commits_among, committed_tables, next_listing, later_listings, left_by, listings_after, Content, State, CacheLine}
use Rattle.std.proofs.Common.{map, take}
use Rattle.std.proofs.lemmas.List.Recursion.{is_count_by}
use Rattle.record_model.proofs.StepLaws.{commits_once}

pub each_line_has_a_turn : EachLineHasATurn
each_line_has_a_turn s [] listings h = refl
each_line_has_a_turn s (line ∷ lines) listings h =
    let quits = or_parts (is_quit line) (list_any is_quit lines) h in
    rw quits.0 (ap suc (each_line_has_a_turn (turn s line (next_listing listings)).after lines (later_listings line listings) quits.1))

-- a run goes on where it stopped
pub turns-append : (xs ys : List Line) (s : State) (listings : List (List CacheLine)) → list_any is_quit xs ≡ false →
    turns s (xs ++ ys) listings
    ≡ turns s xs listings ++ turns (left_by s (turns s xs listings)) ys (listings_after xs listings)
turns-append [] ys s listings h = refl
turns-append (x ∷ xs) ys s listings h =
    let quits = or_parts (is_quit x) (list_any is_quit xs) h in
    let first = turn s x (next_listing listings) in
    rw quits.0 (ap (λ run. first ∷ run) (turns-append xs ys first.after (later_listings x listings) quits.1))

-- A turn that quits is the last one.

ends : (s : State) (line : Line) (lines : List Line) (listings : List (List CacheLine)) → is_quit line ≡ true →
    turns s (line ∷ lines) listings ≡ turn s line (next_listing listings) ∷ []
ends s line lines listings h = rw h refl

-- a turn of a run, with the place after it as a successor
IsTurnOf : State → List Turn → ℕ → Line → List CacheLine → Type 0
IsTurnOf s run i line listing =
    (slice_get run i ≡ Some (turn (state_at run s i) line listing))
    × (state_at run s (suc i) ≡ (line_step (state_at run s i) line listing).after)

later_turn : (s : State) (x : Line) (lines : List Line) (listings : List (List CacheLine)) (i : ℕ) (line : Line) (b : Bool) → is_quit x ≡ b →
    let after = (turn s x (next_listing listings)).after in
    let rest = turns after lines (later_listings x listings) in
    let listing = next_listing (listings_after (take i lines) (later_listings x listings)) in
    suc i < length (turns s (x ∷ lines) listings) → (i < length rest → IsTurnOf after rest i line listing) →
    IsTurnOf s (turns s (x ∷ lines) listings) (suc i) line listing
unfolding IsTurnOf
later_turn s x lines listings i line true h below k = grind (arith, ends)
later_turn s x lines listings i line false h below k = grind (arith, IsTurnOf)

turn_at : (s : State) (lines : List Line) (listings : List (List CacheLine)) (i : ℕ) (line : Line) →
    i < length (turns s lines listings) → slice_get lines i ≡ Some line →
    IsTurnOf s (turns s lines listings) i line (next_listing (listings_after (take i lines) listings))
unfolding IsTurnOf
turn_at s [] listings i line below is = absurd cc
turn_at s (x ∷ lines) listings zero line below is = grind arith
turn_at s (x ∷ lines) listings (suc i) line below is =
    later_turn s x lines listings i line (is_quit x) refl below (λ inside. turn_at (turn s x (next_listing listings)).after lines (later_listings x listings) i line inside is)

pub turns_follow : TurnsFollow
unfolding IsTurnOf
turns_follow s lines listings i line below is =
    let t = turn_at s lines listings i line below is in
    record { turn = t.0; next = ap (state_at (turns s lines listings) s) (add-one i) ∙ t.1 }

-- Each turn starts from the state before it.

abbrev pub IsRun : State → List Turn → Type 0
IsRun s [] = Unit {0}
IsRun s (t ∷ run) = (listing : List CacheLine) × (t ≡ turn s t.line listing) × IsRun t.after run

pub turns_are_run : (s : State) (lines : List Line) (listings : List (List CacheLine)) → IsRun s (turns s lines listings)
turns_are_run s [] listings = tt
turns_are_run s (line ∷ lines) listings = grind (arith, (turns_are_run (turn s line (next_listing listings)).after lines (later_listings line listings)))

-- Commits.

marks_of : List Bool → ℕ
marks_of [] = 0
marks_of (mark ∷ marks) = cond mark (1 + marks_of marks) (marks_of marks)

marks_are : (marks : List Bool) → marks_of marks ≡ count_by (λ mark. mark) marks
unfolding marks_of
marks_are marks = is_count_by marks_of (λ mark. mark) refl (λ mark marks. refl) marks

commits_cons : (i : ℕ) (mark : Bool) (marks : List Bool) → commits_among (suc i) (mark ∷ marks) ≡ cond mark (1 + commits_among i marks) (commits_among i marks)
unfolding marks_of
commits_cons i mark marks = sym (marks_are (mark ∷ take i marks)) ∙ ap (λ n. cond mark (1 + n) n) (marks_are (take i marks))

cond_same : {A : Type 0} (b : Bool) (x y z : A) → (b ≡ true → x ≡ z) → (b ≡ false → y ≡ z) → cond b x y ≡ z
cond_same true x y z h k = h refl
cond_same false x y z h k = k refl

-- the tables from a turn on
tables_cons : (b : Bool) (table default : List Content) (t : Turn) (run : List Turn) (n : ℕ) →
    slice_index_or (table ∷ map (λ (u : Turn). u.after.table) (cond b (t ∷ run) run)) (cond b (1 + n) n) default
    ≡ cond b (slice_index_or (t.after.table ∷ map (λ (u : Turn). u.after.table) run) n default) (slice_index_or (table ∷ map (λ (u : Turn). u.after.table) run) n default)
tables_cons true table default t run n = grind arith
tables_cons false table default t run n = refl

-- what a turn of a run does to the count and to the table
turn_counts : (s : State) (t : Turn) (listing : List CacheLine) → t ≡ turn s t.line listing →
    IsCountedIn s (record { after = t.after; reply = t.reply })
turn_counts s t listing is = subst (λ (u : Turn). IsCountedIn s (record { after = u.after; reply = u.reply })) (sym is) (commits_once s t.line listing)

tables_at : (s : State) (run : List Turn) (i : ℕ) (table default : List Content) → IsRun s run → table ≡ s.table →
    slice_index_or (table ∷ committed_tables run) (commits_among i (commit_marks run)) default ≡ (state_at run s i).table
tables_at s run zero table default is e = e
tables_at s [] (suc i) table default is e = e
tables_at s (t ∷ run) (suc i) table default is e =
    ap (λ n. slice_index_or (table ∷ committed_tables (t ∷ run)) n default) (commits_cons i (is_committed t.reply) (commit_marks run))
    ∙ tables_cons (is_committed t.reply) table default t (filter (λ u. is_committed u.reply) run) (commits_among i (commit_marks run))
    ∙ cond_same (is_committed t.reply) _ _ _
    (λ h. tables_at t.after run i t.after.table default is.2 refl)
    (λ h. tables_at t.after run i table default is.2 (e ∙ sym ((turn_counts s t is.0 is.1).others h).0))

counts_at : (s : State) (run : List Turn) (i : ℕ) → IsRun s run →
    (state_at run s i).commits ≡ s.commits + commits_among i (commit_marks run)
counts_at s run zero is = omega arith
counts_at s [] (suc i) is = omega arith
counts_at s (t ∷ run) (suc i) is =
    counts_at t.after run i is.2 ∙ more (is_committed t.reply) (commits_among i (commit_marks run)) (λ h. ((turn_counts s t is.0 is.1).committed h).1) (λ h. ((turn_counts s t is.0 is.1).others h).1)
    ∙ ap (λ n. s.commits + n) (sym (commits_cons i (is_committed t.reply) (commit_marks run)))
  where
    more : (b : Bool) (n : ℕ) → (b ≡ true → t.after.commits ≡ s.commits + 1) → (b ≡ false → t.after.commits ≡ s.commits) →
        t.after.commits + n ≡ s.commits + cond b (1 + n) n
    more true n h k = let e = h refl in omega (arith, e)
    more false n h k = let e = k refl in omega (arith, e)

pub commits_make_the_table : (s : State) (lines : List Line) (listings : List (List CacheLine)) (i : ℕ) → IsCountedAt s (turns s lines listings) i
commits_make_the_table s lines listings i = record {
  table = sym (tables_at s (turns s lines listings) i s.table s.table (turns_are_run s lines listings) refl);
  commits = counts_at s (turns s lines listings) i (turns_are_run s lines listings);
}

-- the state behind a turn
pub state_after : (s : State) (earlier later : List Turn) (t : Turn) → state_at (earlier ++ t ∷ later) s (suc (length earlier)) ≡ t.after
state_after s [] later t = refl
state_after s (u ∷ earlier) later t = state_after u.after earlier later t

-- a turn that commits is one more
pub one_commit_more : (earlier later : List Turn) (t : Turn) → is_committed t.reply ≡ true →
    commits_among (suc (length earlier)) (commit_marks (earlier ++ t ∷ later)) ≡ commits_among (length earlier) (commit_marks (earlier ++ t ∷ later)) + 1
one_commit_more [] later t h = grind (arith, common_steps)
one_commit_more (u ∷ earlier) later t h = grind (arith, common_steps, (one_commit_more earlier later t h))
