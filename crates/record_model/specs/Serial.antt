-- Serial order: each transaction answers as if it had run alone at the moment of its commit.
use Rattle.std.specs.Prelude.{◌≡◌, ◌⊎◌, ℕ, ◌+◌, ◌*◌, ◌≤◌, ◌==◌, Bool, true, false, ◌&&◌, List, [], ◌∷◌, ◌++◌, length}
use Rattle.std.specs.Prelude.{map, filter, reverse, Option, Some, None, is_some, IsTrue, if◌then◌else◌}
use Rattle.std.specs.List.{list_any}
use Rattle.record_model.specs.declared.words.Command.{Command}
use Rattle.record_model.specs.declared.words.Command.TheVariants.{Begin, Read, Write, Erase, Scan, Commit, Abort, Get}
use Rattle.record_model.specs.declared.words.Command.TheVariants.{Set, Checkpoint, Cache, Stat, Quit, Mark, Back}
use Rattle.record_model.specs.declared.words.CacheLine.{CacheLine}
use Rattle.record_model.specs.State.{Content, State, content_at, opened, session_at}
use Rattle.record_model.specs.Step.{found, is_accepted}
use Rattle.record_model.specs.Run.{Line, Turn, turns, replies, left_by, is_committed, commit_marks, commits_among}
use Rattle.record_model.specs.Run.{after_commits}

-- the session that a command is of
abbrev pub session_of : Command → Option ℕ
session_of (Begin n) = Some n
session_of (Read n number) = Some n
session_of (Write n number value) = Some n
session_of (Erase n number) = Some n
session_of (Scan n number count) = Some n
session_of (Commit n) = Some n
session_of (Abort n) = Some n
session_of (Mark n) = Some n
session_of (Back n standing) = Some n
session_of (Get number) = None
session_of (Set number value) = None
session_of Checkpoint = None
session_of Cache = None
session_of Stat = None
session_of Quit = None

abbrev pub is_session : ℕ → Option ℕ → Bool
is_session n None = false
is_session n (Some m) = m == n

abbrev pub is_begin : Command → Bool
is_begin (Begin n) = true
is_begin (Read n number) = false
is_begin (Write n number value) = false
is_begin (Erase n number) = false
is_begin (Scan n number count) = false
is_begin (Commit n) = false
is_begin (Abort n) = false
is_begin (Mark n) = false
is_begin (Back n standing) = false
is_begin (Get number) = false
is_begin (Set number value) = false
is_begin Checkpoint = false
is_begin Cache = false
is_begin Stat = false
is_begin Quit = false

-- whether an accepted command of the session stands on the line, and whether it is its begin
abbrev pub is_accepted_of : ℕ → State → Line → Bool
is_accepted_of n s None = false
is_accepted_of n s (Some command) = is_session n (session_of command) && is_accepted s command

abbrev pub is_begin_line : Line → Bool
is_begin_line None = false
is_begin_line (Some command) = is_begin command

-- the accepted commands of a session since its last begin, the first of them first; of the turns given the last comes
-- first
abbrev pub since_begin : ℕ → List Turn → List Turn
since_begin n [] = []
since_begin n (t ∷ earlier) =
    if is_accepted_of n t.before t.line
    then (if is_begin_line t.line then [] else since_begin n earlier) ++ t ∷ []
    else since_begin n earlier

-- the transaction that a turn commits: that of its session, or the turn alone where it has none
abbrev pub committed_by : Option ℕ → Turn → List Turn → List Turn
committed_by None t earlier = t ∷ []
committed_by (Some n) t earlier = since_begin n (t ∷ earlier)

abbrev pub line_session : Line → Option ℕ
line_session None = None
line_session (Some command) = session_of command

abbrev pub transaction : Turn → List Turn → List Turn
transaction t earlier = committed_by (line_session t.line) t earlier

-- A transaction of a session, in plain words: a begin that is accepted, all that is accepted of the session behind it,
-- among which is no other begin, and the commit. What is refused isn't of it, nor what other sessions do.
pub record IsOfSession (n : ℕ) (earlier : List Turn) (t : Turn) (own : List Turn) : Type 0 where
  pub before : List Turn
  pub first : Turn
  pub between : List Turn
  pub split : earlier ≡ before ++ first ∷ between
  pub begins : first.line ≡ Some (Begin n)
  pub is_begun : IsTrue (is_accepted first.before (Begin n))
  pub once : list_any (λ u. is_accepted_of n u.before u.line && is_begin_line u.line) between ≡ false
  pub whole : own ≡ (first ∷ filter (λ u. is_accepted_of n u.before u.line) between) ++ t ∷ []

-- of a commit that is the transaction of its session, and of a set it is the set alone
abbrev pub IsTransaction : List Turn → Turn → List Turn → Type 0
IsTransaction earlier t own =
    ((n : ℕ) × (t.line ≡ Some (Commit n)) × IsOfSession n earlier t own)
    ⊎ ((number : ℕ) × (value : List ℕ) × (t.line ≡ Some (Set number value)) × (own ≡ t ∷ []))

abbrev pub lines_of : List Turn → List Line
lines_of run = map (λ t. t.line) run

-- A turn of a run, with the turns before it and after it. The run began with this table and this many commits.

abbrev pub commits_before : List Turn → List Turn → Turn → ℕ
commits_before earlier later t = commits_among (length earlier) (commit_marks (earlier ++ t ∷ later))

abbrev pub table_before : List Content → List Turn → List Turn → Turn → List Content
table_before table earlier later t = after_commits table (earlier ++ t ∷ later) (commits_before earlier later t)

-- Where a transaction runs alone, no page is ever full.
abbrev pub opened_alone : List Content → ℕ → ℕ → State
opened_alone table commits cap = record (opened table commits 0 cap) { pages_fill = false }

-- A transaction gives its replies again where it runs alone, on the table and from the count of the commits before it.
-- The log has no limit there: the cap is any number that has room for four log records for each of its commands, so
-- that no reply is `Full`.
abbrev pub AnswersAlone : List Content → ℕ → List Turn → List Turn → Turn → Type 0
AnswersAlone table commits earlier later t =
    let own = transaction t (reverse earlier) in
    IsTrue (is_committed t.reply) → (cap : ℕ) → 4 * length own ≤ cap →
    let alone = opened_alone (table_before table earlier later t) (commits + commits_before earlier later t) cap in
    replies (turns alone (lines_of own) []) ≡ replies own

-- And it leaves there the table that its commit made in the run. So the transactions of a run, one after the other,
-- leave the same tables.
abbrev pub LeavesItsTable : List Content → ℕ → List Turn → List Turn → Turn → Type 0
LeavesItsTable table commits earlier later t =
    let own = transaction t (reverse earlier) in
    IsTrue (is_committed t.reply) → (cap : ℕ) → 4 * length own ≤ cap →
    let alone = opened_alone (table_before table earlier later t) (commits + commits_before earlier later t) cap in
    (left_by alone (turns alone (lines_of own) [])).table
    ≡ after_commits table (earlier ++ t ∷ later) (commits_before earlier later t + 1)

-- A session that is active behind a turn has been answered so far as it would be alone, on the table of that moment. So
-- a session that aborts, or that is left unfinished, has seen one table too.
abbrev pub AnswersSoFar : List Content → ℕ → List Turn → List Turn → Turn → Type 0
AnswersSoFar table commits earlier later t =
    (n : ℕ) → IsTrue (is_some (session_at t.after n)) → (cap : ℕ) →
    let own = since_begin n (t ∷ reverse earlier) in
    4 * length own ≤ cap →
    let count = commits_among (length earlier + 1) (commit_marks (earlier ++ t ∷ later)) in
    let alone = opened_alone (after_commits table (earlier ++ t ∷ later) count) (commits + count) cap in
    replies (turns alone (lines_of own) []) ≡ replies own

-- an accepted get gives what the table of the commits before it has
abbrev pub GetsTheTable : List Content → List Turn → List Turn → Turn → Type 0
GetsTheTable table earlier later t =
    (number : ℕ) → t.line ≡ Some (Get number) → IsTrue (is_accepted t.before (Get number)) →
    t.reply ≡ found (content_at (table_before table earlier later t) number)

pub record IsSerial (table : List Content) (commits : ℕ) (earlier later : List Turn)
    (t : Turn) : Type 0 where
  pub whole : IsTrue (is_committed t.reply) →
      IsTransaction earlier t (transaction t (reverse earlier))
  pub alone : AnswersAlone table commits earlier later t
  pub leaves : LeavesItsTable table commits earlier later t
  pub so_far : AnswersSoFar table commits earlier later t
  pub get : GetsTheTable table earlier later t

-- serial order, of each turn of each run
abbrev pub Serial : Type 0
Serial =
    (table : List Content) (commits made cap : ℕ) →
    (lines : List Line) (listings : List (List CacheLine)) (earlier later : List Turn) (t : Turn) →
    turns (opened table commits made cap) lines listings ≡ earlier ++ t ∷ later →
    IsSerial table commits earlier later t

-- of it, the part that speaks of gets
abbrev pub GetsAreSerial : Type 0
GetsAreSerial =
    (table : List Content) (commits made cap : ℕ) →
    (lines : List Line) (listings : List (List CacheLine)) (earlier later : List Turn) (t : Turn) →
    turns (opened table commits made cap) lines listings ≡ earlier ++ t ∷ later →
    GetsTheTable table earlier later t
