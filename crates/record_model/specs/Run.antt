-- Whole runs: what each line is answered, which commits it makes, and what a crash may leave of them.
use Rattle.std.specs.Prelude.{ℕ, zero, suc, ◌+◌, ◌-◌, ◌≤◌, Bool, true, false, List, [], ◌∷◌, length, map, filter, take}
use Rattle.std.specs.Prelude.{drop, count_by, slice_index_or, nat_eq, Option, Some, None, if◌then◌else◌}
use Rattle.std.specs.List.{starts_with}
use Rattle.record_model.specs.declared.words.Command.{Command}
use Rattle.record_model.specs.declared.words.Command.TheVariants.{Begin, Read, Write, Erase, Scan, Commit, Abort, Get}
use Rattle.record_model.specs.declared.words.Command.TheVariants.{Set, Checkpoint, Cache, Stat, Quit, Mark, Back}
use Rattle.record_model.specs.declared.words.Why.TheVariants.{BadLine}
use Rattle.record_model.specs.declared.words.CacheLine.{CacheLine}
use Rattle.record_model.specs.declared.words.Reply.{Reply}
use Rattle.record_model.specs.declared.words.Reply.TheVariants as reply
use Rattle.record_model.specs.State.{Content, State}
use Rattle.record_model.specs.Step.{Outcome, step}

-- a line of input: a command, or none where the line isn't in the grammar
abbrev pub Line : Type 0
Line = Option Command

-- a line that is no command is refused, and changes nothing
abbrev pub line_step : State → Line → List CacheLine → Outcome
line_step s None listing = record { after = s; reply = reply.Refused BadLine }
line_step s (Some command) listing = step s command listing

abbrev pub is_quit : Line → Bool
is_quit None = false
is_quit (Some (Begin n)) = false
is_quit (Some (Read n number)) = false
is_quit (Some (Write n number value)) = false
is_quit (Some (Erase n number)) = false
is_quit (Some (Scan n number count)) = false
is_quit (Some (Commit n)) = false
is_quit (Some (Abort n)) = false
is_quit (Some (Mark n)) = false
is_quit (Some (Back n standing)) = false
is_quit (Some (Get number)) = false
is_quit (Some (Set number value)) = false
is_quit (Some Checkpoint) = false
is_quit (Some Cache) = false
is_quit (Some Stat) = false
is_quit (Some Quit) = true

abbrev pub is_cache : Line → Bool
is_cache None = false
is_cache (Some (Begin n)) = false
is_cache (Some (Read n number)) = false
is_cache (Some (Write n number value)) = false
is_cache (Some (Erase n number)) = false
is_cache (Some (Scan n number count)) = false
is_cache (Some (Commit n)) = false
is_cache (Some (Abort n)) = false
is_cache (Some (Mark n)) = false
is_cache (Some (Back n standing)) = false
is_cache (Some (Get number)) = false
is_cache (Some (Set number value)) = false
is_cache (Some Checkpoint) = false
is_cache (Some Cache) = true
is_cache (Some Stat) = false
is_cache (Some Quit) = false

-- the first listing is that of the first cache command
abbrev pub next_listing : List (List CacheLine) → List CacheLine
next_listing [] = []
next_listing (listing ∷ listings) = listing

abbrev pub later_listings : Line → List (List CacheLine) → List (List CacheLine)
later_listings line listings = if is_cache line then drop 1 listings else listings

-- a turn of a run: the state before it, the line, and what came of it
pub record Turn : Type 0 where
  pub before : State
  pub line : Line
  pub reply : Reply
  pub after : State

abbrev pub turn : State → Line → List CacheLine → Turn
turn s line listing = let o = line_step s line listing in
    record { before = s; line = line; reply = o.reply; after = o.after }

-- the turns of a run, up to the one that quits
abbrev pub turns : State → List Line → List (List CacheLine) → List Turn
turns s [] listings = []
turns s (line ∷ lines) listings =
    let first = turn s line (next_listing listings) in
    first ∷ (if is_quit line then [] else turns first.after lines (later_listings line listings))

-- the state of a run when so many of its turns are over, which is the last one's where it has no more
abbrev pub state_at : List Turn → State → ℕ → State
state_at run s zero = s
state_at [] s (suc i) = s
state_at (t ∷ run) s (suc i) = state_at run t.after i

-- the state that a run leaves, and the listings that it leaves unused
abbrev pub left_by : State → List Turn → State
left_by s [] = s
left_by s (t ∷ run) = left_by t.after run

abbrev pub listings_after : List Line → List (List CacheLine) → List (List CacheLine)
listings_after [] listings = listings
listings_after (line ∷ lines) listings = listings_after lines (later_listings line listings)

abbrev pub replies : List Turn → List Reply
replies run = map (λ t. t.reply) run

-- Commits.

abbrev pub is_committed : Reply → Bool
is_committed reply.Done = false
is_committed (reply.Value value) = false
is_committed reply.Nothing = false
is_committed (reply.Committed count) = true
is_committed reply.Aborted = false
is_committed (reply.Back count) = false
is_committed reply.Checked = false
is_committed (reply.Items items) = false
is_committed (reply.Listing lines) = false
is_committed (reply.Stat counts) = false
is_committed reply.Bye = false
is_committed (reply.Busy session) = false
is_committed (reply.Full used owed cap) = false
is_committed (reply.PageFull page need) = false
is_committed (reply.Refused why) = false

-- which turns were commits
abbrev pub commit_marks : List Turn → List Bool
commit_marks run = map (λ t. is_committed t.reply) run

-- how many of the first turns were commits
abbrev pub commits_among : ℕ → List Bool → ℕ
commits_among m marks = count_by (λ mark. mark) (take m marks)

-- the tables that the commits of a run left, in order
abbrev pub committed_tables : List Turn → List (List Content)
committed_tables run = map (λ t. t.after.table) (filter (λ t. is_committed t.reply) run)

-- the table when the run has made its first k commits
abbrev pub after_commits : List Content → List Turn → ℕ → List Content
after_commits table run k = slice_index_or (table ∷ committed_tables run) k table

-- What was told of a run.

-- how many of the texts stand whole, one after the other, at the front of what was told
abbrev pub whole_texts : List ℕ → List (List ℕ) → ℕ
whole_texts told [] = 0
whole_texts told (text ∷ texts) =
    if starts_with nat_eq told text then 1 + whole_texts (drop (length text) told) texts else 0

-- The text of the opening comes first, and then one for each turn. The commits whose replies were told whole are
-- acknowledged. That of the next turn, if it is one, was asked for.
abbrev pub acknowledged : List ℕ → List (List ℕ) → List Bool → ℕ
acknowledged told texts marks = commits_among (whole_texts told texts - 1) marks

abbrev pub asked_for : List ℕ → List (List ℕ) → List Bool → ℕ
asked_for told texts marks = commits_among (whole_texts told texts) marks

-- a crash may leave so many of the commits
pub record IsInRange (told : List ℕ) (texts : List (List ℕ)) (marks : List Bool) (k : ℕ) : Type 0 where
  pub at_least : acknowledged told texts marks ≤ k
  pub at_most : k ≤ asked_for told texts marks
