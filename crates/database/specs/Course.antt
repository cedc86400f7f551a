-- Calls of a database, one after the other, and what comes of them.
use Rattle.std.specs.Prelude.{◌≡◌, ℕ, ◌+◌, ◌≤◌, Bool, true, false, List, [], ◌∷◌, ◌++◌, length, map, Result, Ok, Err}
use Rattle.std.specs.Prelude.{Some, OnOk, if◌then◌else◌, ⊤}
use Rattle.std.specs.List.{AllByRecursion}
use Rattle.site.specs.declared.geometry.Geometry.{Geometry}
use Rattle.site.specs.State.{Snapshot, now_of}
use Rattle.site.specs.Moments.{Leaves, LeavesOnly}
use Rattle.record_model.specs.State.{State, opened}
use Rattle.record_model.specs.Run.{Line, Turn, turns, replies, state_at, is_cache, is_committed, commit_marks}
use Rattle.record_model.specs.Run.{commits_among, after_commits}
use Rattle.record_model.specs.Serial.{IsSerial}
use Rattle.record_model.specs.declared.words.CacheLine.{CacheLine}
use Rattle.record_model.specs.declared.words.Command.{Command}
use Rattle.record_model.specs.declared.words.Command.TheVariants.{Begin, Read, Write, Erase, Scan, Commit, Abort, Get}
use Rattle.record_model.specs.declared.words.Command.TheVariants.{Set, Checkpoint, Cache, Stat, Quit, Mark, Back}
use Rattle.record_model.specs.declared.words.Reply.{Reply}
use Rattle.engine.specs.Image.{Stands}
use Rattle.engine.specs.Listings.{listing_of}
use Rattle.database.specs.declared.unanswered.Unanswered.{Unanswered}
use Rattle.database.specs.declared.unanswered.Unanswered.TheVariants.{Closed, Stopped}
use Rattle.database.specs.Held.{Held, StandsFor}
use Rattle.database.specs.Serving.{Serves}

-- a call: what was asked, what it answered, and the database before it and behind it
pub record Call : Type 0 where
  pub command : Command
  pub answer : Result Reply Unanswered
  pub before : Held
  pub after : Held

abbrev pub IsServed : Call → Type 0
IsServed call = Serves call.command call.answer call.before call.after

-- calls one after the other, from a database as it was to the database as it is
abbrev pub Follow : Held → List Call → Held → Type 0
Follow before [] now = now ≡ before
Follow before (call ∷ calls) now = (call.before ≡ before) × IsServed call × Follow call.after calls now

-- The run of the record model that they are.

abbrev pub is_answer : Result Reply Unanswered → Bool
is_answer (Ok reply) = true
is_answer (Err why) = false

-- those up to the first that wasn't answered
abbrev pub begun : List Call → List Call
begun [] = []
begun (call ∷ calls) = call ∷ (if is_answer call.answer then begun calls else [])

abbrev pub lines_of : List Call → List Line
lines_of calls = map (λ call. Some call.command) calls

-- what the cache listed where a call asked for it
abbrev pub listings_of : List Call → List (List CacheLine)
listings_of [] = []
listings_of (call ∷ calls) =
    (if is_cache (Some call.command) then listing_of call.before.engine ∷ [] else []) ++ listings_of calls

abbrev pub run_of : State → List Call → List Turn
run_of s calls = turns s (lines_of (begun calls)) (listings_of (begun calls))

-- Each answer is the model's reply, up to one that is none; all calls behind that one find the database closed.
abbrev pub AreAnswers : List (Result Reply Unanswered) → List Reply → Type 0
AreAnswers [] [] = ⊤
AreAnswers (Ok reply ∷ answers) (told ∷ later) = (reply ≡ told) × AreAnswers answers later
AreAnswers (Err (Stopped stop) ∷ answers) (told ∷ []) = AllByRecursion (λ answer. answer ≡ Err Closed) answers
AreAnswers answers later = ⊥

-- Commits.

abbrev pub is_commit : Result Reply Unanswered → Bool
is_commit (Ok reply) = is_committed reply
is_commit (Err why) = false

-- how many were answered
abbrev pub commits_in : List Call → ℕ
commits_in [] = 0
commits_in (call ∷ calls) = (if is_commit call.answer then 1 else 0) + commits_in calls

-- Which commands may make one, and how many of calls ask for such a command.
abbrev pub may_commit : Command → Bool
may_commit (Begin n) = false
may_commit (Read n number) = false
may_commit (Write n number value) = false
may_commit (Erase n number) = false
may_commit (Scan n number count) = false
may_commit (Commit n) = true
may_commit (Abort n) = false
may_commit (Mark n) = false
may_commit (Back n standing) = false
may_commit (Get number) = false
may_commit (Set number value) = true
may_commit Checkpoint = false
may_commit Cache = false
may_commit Stat = false
may_commit Quit = false

abbrev pub may_commit_in : List Call → ℕ
may_commit_in [] = 0
may_commit_in (call ∷ calls) = (if may_commit call.command then 1 else 0) + may_commit_in calls

-- how many of a run's commits were made or asked for by these calls
abbrev pub commits_asked : List Turn → List Call → ℕ
commits_asked run calls = commits_among (length (begun calls)) (commit_marks run)

-- the devices have the table after the first commits of a run: so many of them at least, and so many at most
pub record LeavesCommits (g : Geometry) (s : State) (run : List Turn) (least most : ℕ) (so_far : List ℕ)
    (snapshot : Snapshot) : Type 0 where
  pub count : ℕ
  pub at_least : least ≤ count
  pub at_most : count ≤ most
  pub stands : Stands g snapshot.image (after_commits s.table run count) (s.commits + count)
  pub told : snapshot.told ≡ so_far

-- One of the calls, with those before it.
pub record IsDurable (g : Geometry) (s : State) (run : List Turn) (before : Held) (earlier : List Call) (call : Call)
    : Type 0 where
  -- A crash at any moment of it leaves the commits that were answered before it, and perhaps one more: one that is
  -- asked for.
  pub any_moment : LeavesOnly call.before.site call.after.site
      (LeavesCommits g s run (commits_in earlier) (commits_asked run (earlier ++ call ∷ [])) before.site.told)
  pub one_more : commits_asked run (earlier ++ call ∷ []) ≤ commits_in earlier + 1
  -- Once it is answered, a crash leaves its commit too.
  pub at_rest : OnOk call.answer (Leaves (LeavesCommits g s run (commits_in (earlier ++ call ∷ []))
      (commits_in (earlier ++ call ∷ [])) before.site.told) (now_of call.after.site))
  -- and the database stands for the state of the model
  pub stands : OnOk call.answer (StandsFor g (state_at run s (length earlier + 1)) call.after)

-- All of them, on a database that stood for a state.
pub record AreDurable (g : Geometry) (s : State) (calls : List Call) (before now : Held) : Type 0 where
  pub answers : AreAnswers (map (λ call. call.answer) calls) (replies (run_of s calls))
  pub each : (earlier later : List Call) (call : Call) → calls ≡ earlier ++ call ∷ later →
      IsDurable g s (run_of s calls) before earlier call
  -- so a crash at any moment of all of them leaves some of their commits, of which there are no more than commands that
  -- may make one
  pub whole : LeavesOnly before.site now.site
      (LeavesCommits g s (run_of s calls) 0 (commits_asked (run_of s calls) calls) before.site.told)
  pub few : commits_asked (run_of s calls) calls ≤ may_commit_in calls
  -- where no session was active, its transactions are in serial order: that of their commits
  pub serial : (made cap : ℕ) → s ≡ opened s.table s.commits made cap →
      (earlier later : List Turn) (t : Turn) → run_of s calls ≡ earlier ++ t ∷ later →
      IsSerial s.table s.commits earlier later t

-- so it is of all calls
abbrev pub CallsAreDurable : Type 0
CallsAreDurable = (g : Geometry) (s : State) (before now : Held) (calls : List Call) → StandsFor g s before →
    Follow before calls now → AreDurable g s calls before now
