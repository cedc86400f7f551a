-- Steps with one thing wrong. Of each there is a run that isn't in serial order.
use Rattle.std.specs.Prelude.{◌≡◌, ◌≢◌, ℕ, List, [], ◌∷◌, filter, reverse, Option, Some, None, option_map}
use Rattle.std.specs.Prelude.{is_some, if◌then◌else◌}
use Rattle.std.specs.List.{range_with_len}
use Rattle.record_model.specs.declared.words.Command.{Command}
use Rattle.record_model.specs.declared.words.Command.TheVariants.{Begin, Read, Write, Scan, Commit, Abort, Get, Set}
use Rattle.record_model.specs.declared.words.Why.TheVariants.{BadLine}
use Rattle.record_model.specs.declared.words.Reply.{Reply}
use Rattle.record_model.specs.declared.words.Reply.TheVariants as reply
use Rattle.record_model.specs.State.{Content, State, content_at, session_at, seen, busy_read}
use Rattle.record_model.specs.Step.{Outcome, step, is_accepted, with_session, having_read, wants_record, found}
use Rattle.record_model.specs.Run.{Line, Turn, replies, after_commits}
use Rattle.record_model.specs.Serial.{lines_of, since_begin, opened_alone}
use Rattle.record_model.specs.Rows.{blank, fresh, aa, old_item}

-- A step, and its runs.
abbrev pub Does : Type 0
Does = State → Command → Outcome

abbrev pub line_by : Does → State → Line → Outcome
line_by does s None = record { after = s; reply = reply.Refused BadLine }
line_by does s (Some command) = does s command

abbrev pub turns_by : Does → State → List Line → List Turn
turns_by does s [] = []
turns_by does s (line ∷ lines) =
    let o = line_by does s line in
    record { before = s; line = line; reply = o.reply; after = o.after } ∷ turns_by does o.after lines

-- The right one.
abbrev pub rightly : Does
rightly s command = step s command []

-- No read lock is taken: what a session has read is forgotten at once.
abbrev pub without_read_locks : Does
without_read_locks s (Read n number) = record { after = s; reply = (rightly s (Read n number)).reply }
without_read_locks s (Scan n number count) = record { after = s; reply = (rightly s (Scan n number count)).reply }
without_read_locks s command = rightly s command

-- A scan locks only the records that have a value.
abbrev pub values_in : State → ℕ → List ℕ → List ℕ
values_in s n numbers = filter (λ number. is_some (seen s n number)) numbers

abbrev pub locking_what_it_finds : Does
locking_what_it_finds s (Scan n number count) = record {
  after =
      if is_accepted s (Scan n number count)
      then with_session s n (option_map (having_read (values_in s n (range_with_len number count))) (session_at s n))
      else s;
  reply = (rightly s (Scan n number count)).reply;
}
locking_what_it_finds s command = rightly s command

-- A get sees what a session has written and not committed.
abbrev pub pending : State → ℕ → Option ℕ → Content
pending s number None = content_at s.table number
pending s number (Some n) = seen s n number

abbrev pub answer_or : Reply → Option Reply → Reply
answer_or answer None = answer
answer_or answer (Some refused) = refused

abbrev pub seeing_pending_writes : Does
seeing_pending_writes s (Get number) = record {
  after = s;
  reply = answer_or (found (pending s number (busy_read s None number))) (wants_record s number);
}
seeing_pending_writes s command = rightly s command

-- Runs over these steps, on a blank database. The last line commits session 0.
abbrev pub run_by : Does → List Line → List Turn
run_by does lines = turns_by does (fresh 63) lines

abbrev pub last_transaction : Does → List Line → List Turn
last_transaction does lines = since_begin 0 (reverse (run_by does lines))

-- what it is answered in the run, and what it is answered alone, where there was one commit before its own
abbrev pub among_others : Does → List Line → List Reply
among_others does lines = replies (last_transaction does lines)

abbrev pub alone : Does → List Line → List Reply
alone does lines =
    let table = after_commits blank (run_by does lines) 1 in
    replies (turns_by does (opened_alone table 1 63) (lines_of (last_transaction does lines)))

-- one record is read twice, and set in between
abbrev pub read_twice : List Line
read_twice = Some (Begin 0) ∷ Some (Read 0 2) ∷ Some (Set 2 aa) ∷ Some (Read 0 2) ∷ Some (Commit 0) ∷ []

abbrev pub ReadLocksKeepWritersOff : Type 0
ReadLocksKeepWritersOff =
    replies (run_by rightly read_twice)
    ≡ reply.Done ∷ reply.Nothing ∷ reply.Busy 0 ∷ reply.Nothing ∷ reply.Committed 1 ∷ []

abbrev pub ReadsDifferWithoutLocks : Type 0
ReadsDifferWithoutLocks =
    (among_others without_read_locks read_twice ≡ reply.Done ∷ reply.Nothing ∷ reply.Value aa ∷ reply.Committed 2 ∷ [])
    × (alone without_read_locks read_twice ≡ reply.Done ∷ reply.Value aa ∷ reply.Value aa ∷ reply.Committed 2 ∷ [])
    × (among_others without_read_locks read_twice ≢ alone without_read_locks read_twice)

-- a range with no value in it is scanned twice, and a record of it set in between
abbrev pub scanned_twice : List Line
scanned_twice = Some (Begin 0) ∷ Some (Scan 0 0 4) ∷ Some (Set 2 aa) ∷ Some (Scan 0 0 4) ∷ Some (Commit 0) ∷ []

abbrev pub ScanLocksItsRange : Type 0
ScanLocksItsRange =
    replies (run_by rightly scanned_twice)
    ≡ reply.Done ∷ reply.Items [] ∷ reply.Busy 0 ∷ reply.Items [] ∷ reply.Committed 1 ∷ []

abbrev pub ScansDifferWithFewLocks : Type 0
ScansDifferWithFewLocks =
    (among_others locking_what_it_finds scanned_twice
    ≡ reply.Done ∷ reply.Items [] ∷ reply.Items (old_item ∷ []) ∷ reply.Committed 2 ∷ [])
    × (alone locking_what_it_finds scanned_twice
    ≡ reply.Done ∷ reply.Items (old_item ∷ []) ∷ reply.Items (old_item ∷ []) ∷ reply.Committed 2 ∷ [])
    × (among_others locking_what_it_finds scanned_twice ≢ alone locking_what_it_finds scanned_twice)

-- a record is asked for that a session has written, which then aborts
abbrev pub asked_between : List Line
asked_between = Some (Begin 0) ∷ Some (Write 0 7 aa) ∷ Some (Get 7) ∷ Some (Abort 0) ∷ Some (Get 7) ∷ []

abbrev pub GetKeptOff : Type 0
GetKeptOff =
    replies (run_by rightly asked_between)
    ≡ reply.Done ∷ reply.Done ∷ reply.Busy 0 ∷ reply.Aborted ∷ reply.Nothing ∷ []

-- the get answers a value that the table after no commit hasn't
abbrev pub GetSeesWhatIsNotThere : Type 0
GetSeesWhatIsNotThere =
    (replies (run_by seeing_pending_writes asked_between)
    ≡ reply.Done ∷ reply.Done ∷ reply.Value aa ∷ reply.Aborted ∷ reply.Nothing ∷ [])
    × (found (content_at (after_commits blank (run_by seeing_pending_writes asked_between) 0) 7) ≡ reply.Nothing)
