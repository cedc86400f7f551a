-- What follows from the model, for those who build on it.
use Rattle.std.specs.Prelude.{◌≡◌, ℕ, ◌+◌, ◌<◌, ◌≤◌, ◌==◌, Bool, true, false, not, List, length, take, slice_get}
use Rattle.std.specs.Prelude.{[], slice_index_or, sum_by, Option, Some, None, IsTrue}
use Rattle.std.specs.List.{list_any}
use Rattle.record_model.specs.declared.words.Command.{Command}
use Rattle.record_model.specs.declared.words.Command.TheVariants.{Begin, Read, Write, Erase, Scan, Commit, Abort, Get}
use Rattle.record_model.specs.declared.words.Command.TheVariants.{Set, Checkpoint, Cache, Stat, Quit, Mark, Back}
use Rattle.record_model.specs.declared.words.CacheLine.{CacheLine}
use Rattle.record_model.specs.declared.words.Reply.{Reply}
use Rattle.record_model.specs.declared.words.Reply.TheVariants as reply
use Rattle.record_model.specs.State.{Session, State, content_at, session_at, writes_of, seen, page_room, records_of}
use Rattle.record_model.specs.State.{length_of, footprint}
use Rattle.record_model.specs.Step.{Outcome, step, is_accepted}
use Rattle.record_model.specs.Run.{Line, Turn, turn as turn_of, line_step, turns, state_at, left_by, next_listing}
use Rattle.record_model.specs.Run.{listings_after, is_quit, is_committed, commit_marks, commits_among, after_commits}

-- What a line does to a state. Where it commits, the count of commits rises by one, and the reply names the new count.
-- Otherwise the table and the count stay.
pub record IsCountedIn (s : State) (o : Outcome) : Type 0 where
  pub committed : IsTrue (is_committed o.reply)
      → (o.reply ≡ reply.Committed (s.commits + 1)) × (o.after.commits ≡ s.commits + 1)
  pub others : is_committed o.reply ≡ false → (o.after.table ≡ s.table) × (o.after.commits ≡ s.commits)

-- the sizes that no line changes
pub record KeepsSizes (before after : State) : Type 0 where
  pub table : length after.table ≡ length before.table
  pub sessions : length after.sessions ≡ length before.sessions
  pub cap : after.cap ≡ before.cap
  pub pages_fill : after.pages_fill ≡ before.pages_fill

-- whether a reply says that the command wasn't carried out
abbrev pub is_refused : Reply → Bool
is_refused reply.Done = false
is_refused (reply.Value value) = false
is_refused reply.Nothing = false
is_refused (reply.Committed count) = false
is_refused reply.Aborted = false
is_refused (reply.Back count) = false
is_refused reply.Checked = false
is_refused (reply.Items items) = false
is_refused (reply.Listing lines) = false
is_refused (reply.Stat counts) = false
is_refused reply.Bye = false
is_refused (reply.Busy session) = true
is_refused (reply.Full used owed cap) = true
is_refused (reply.PageFull page need) = true
is_refused (reply.Refused why) = true

-- whether a command was accepted is told by its reply
abbrev pub RefusalsAreTold : Type 0
RefusalsAreTold = (s : State) (command : Command) (listing : List CacheLine) →
    is_accepted s command ≡ not (is_refused (step s command listing).reply)

abbrev pub SizesStay : Type 0
SizesStay = (s : State) (line : Line) (listing : List CacheLine) → KeepsSizes s (line_step s line listing).after

-- Of an active session: what stands it has written, no more writes stand than it has made, and its mark is among them.
pub record IsSoundSession (session : Session) : Type 0 where
  pub written : (number : ℕ) → list_any (λ write. write.0 == number) session.writes ≡ true →
      list_any (λ wrote. wrote == number) session.wrote ≡ true
  pub few : length session.writes ≤ length session.wrote
  pub marked : session.mark ≤ length session.writes

-- That holds where a run begins, since no session is active there, and each line keeps it.
abbrev pub AreSound : List (Option Session) → Type 0
AreSound sessions = (n : ℕ) (session : Session) → slice_index_or sessions n None ≡ Some session → IsSoundSession session

abbrev pub SessionsStaySound : Type 0
SessionsStaySound = (s : State) (line : Line) (listing : List CacheLine) →
    AreSound s.sessions → AreSound (line_step s line listing).after.sessions

-- whether a line ends a session, or says where its mark is
abbrev pub moves_mark : ℕ → Line → Bool
moves_mark n None = false
moves_mark n (Some (Begin m)) = false
moves_mark n (Some (Read m number)) = false
moves_mark n (Some (Write m number value)) = false
moves_mark n (Some (Erase m number)) = false
moves_mark n (Some (Scan m number count)) = false
moves_mark n (Some (Commit m)) = m == n
moves_mark n (Some (Abort m)) = m == n
moves_mark n (Some (Mark m)) = m == n
moves_mark n (Some (Back m None)) = false
moves_mark n (Some (Back m (Some standing))) = m == n
moves_mark n (Some (Get number)) = false
moves_mark n (Some (Set number value)) = false
moves_mark n (Some Checkpoint) = false
moves_mark n (Some Cache) = false
moves_mark n (Some Stat) = false
moves_mark n (Some Quit) = false

-- A session sets its mark, and then come lines none of which moves it. Whatever the session writes there, and takes
-- back, a back behind them leaves standing what stood at the mark.
abbrev pub BackToTheMark : Type 0
BackToTheMark = (s : State) (n : ℕ) (lines : List Line) (listings : List (List CacheLine)) →
    IsTrue (is_accepted s (Mark n)) → list_any (moves_mark n) lines ≡ false →
    let marked = (step s (Mark n) []).after in
    let now = left_by marked (turns marked lines listings) in
    writes_of (session_at (step now (Back n None) []).after n) ≡ writes_of (session_at s n)

-- In no page do the records come to need more octets together than it has, whatever the sessions do from here on. Each
-- line keeps that, where pages can be full.
abbrev pub PagesFit : State → Type 0
PagesFit s = (page : ℕ) → sum_by (footprint s) (records_of page) ≤ page_room

abbrev pub PagesStayFit : Type 0
PagesStayFit = (s : State) (line : Line) (listing : List CacheLine) →
    s.pages_fill ≡ true → PagesFit s → PagesFit (line_step s line listing).after

-- So its records have room in it together, with what the table has there; also as any one session sees them.
abbrev pub TableFits : Type 0
TableFits = (s : State) (page : ℕ) → PagesFit s →
    sum_by (λ number. length_of (content_at s.table number)) (records_of page) ≤ page_room

abbrev pub SeenFits : Type 0
SeenFits = (s : State) (n page : ℕ) → PagesFit s →
    sum_by (λ number. length_of (seen s n number)) (records_of page) ≤ page_room

-- where no line quits, each line has its turn
abbrev pub EachLineHasATurn : Type 0
EachLineHasATurn = (s : State) (lines : List Line) (listings : List (List CacheLine)) →
    list_any is_quit lines ≡ false → length (turns s lines listings) ≡ length lines

-- a turn of a run that begins at s: it answers its line from the state that the turns before it left
pub record IsTurnAt (s : State) (run : List Turn) (i : ℕ) (line : Line)
    (listing : List CacheLine) : Type 0 where
  pub turn : slice_get run i ≡ Some (turn_of (state_at run s i) line listing)
  pub next : state_at run s (i + 1) ≡ (line_step (state_at run s i) line listing).after

abbrev pub TurnsFollow : Type 0
TurnsFollow = (s : State) (lines : List Line) (listings : List (List CacheLine)) (i : ℕ)
    (line : Line) →
    i < length (turns s lines listings) → slice_get lines i ≡ Some line →
    IsTurnAt s (turns s lines listings) i line
    (next_listing (listings_after (take i lines) listings))

-- after the first turns of a run that begins at s, the table is that of the commits among them, and they are counted
pub record IsCountedAt (s : State) (run : List Turn) (i : ℕ) : Type 0 where
  pub table : (state_at run s i).table ≡ after_commits s.table run (commits_among i (commit_marks run))
  pub commits : (state_at run s i).commits ≡ s.commits + commits_among i (commit_marks run)
