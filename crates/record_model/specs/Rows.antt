-- Runs that were worked out by hand. Of each, the lines and what they are answered.
use Rattle.std.specs.Prelude.{◌≡◌, ℕ, ◌*◌, List, [], ◌∷◌, ◌++◌, length, replicate, map, reverse, slice_set, take, Bool}
use Rattle.std.specs.Prelude.{true, false, Some, None}
use Rattle.std.specs.List.{range_with_len}
use Rattle.record_model.specs.declared.words.Command.TheVariants.{Begin, Read, Write, Erase, Scan, Commit, Abort, Get}
use Rattle.record_model.specs.declared.words.Command.TheVariants.{Set, Checkpoint, Stat, Quit, Mark, Back}
use Rattle.record_model.specs.declared.words.Reply.{Reply}
use Rattle.record_model.specs.declared.words.Reply.TheVariants as reply
use Rattle.record_model.specs.declared.words.Why.TheVariants.{BadLine, BadSession, NoRecord, TooLong, BadMark}
use Rattle.record_model.specs.declared.words.Item.{Item}
use Rattle.record_model.specs.State.{Content, State, opened}
use Rattle.record_model.specs.Run.{Line, Turn, turns, replies, acknowledged, asked_for, after_commits}
use Rattle.record_model.specs.Serial.{lines_of, since_begin, opened_alone}
use Rattle.record_model.specs.Touches.{touch, flush, run_touches}

-- 512 records, none of which has a value
abbrev pub blank : List Content
blank = replicate 512 None

-- a blank database whose log has room for so many records
abbrev pub fresh : ℕ → State
fresh cap = opened blank 0 0 cap

abbrev pub answers : ℕ → List Line → List Reply
answers cap lines = replies (turns (fresh cap) lines [])

-- the octet that the rows write
abbrev pub aa : List ℕ
aa = 170 ∷ []

-- Values: the longest, one that is too long, and the empty one.
abbrev pub LongestValue : Type 0
LongestValue =
    answers 63 (Some (Set 3 (replicate 200 90)) ∷ Some (Set 3 (replicate 201 90)) ∷ Some (Set 3 []) ∷ Some (Get 3)
    ∷ Some (Get 4) ∷ [])
    ≡ reply.Committed 1 ∷ reply.Refused TooLong ∷ reply.Committed 2 ∷ reply.Value [] ∷ reply.Nothing ∷ []

abbrev pub LastRecord : Type 0
LastRecord =
    answers 63 (Some (Set 511 (1 ∷ [])) ∷ Some (Set 512 (1 ∷ [])) ∷ Some (Get 511) ∷ [])
    ≡ reply.Committed 1 ∷ reply.Refused NoRecord ∷ reply.Value (1 ∷ []) ∷ []

-- a pending write keeps the readers of other sessions off until it is dropped
abbrev pub WriteKeepsReadersOff : Type 0
WriteKeepsReadersOff =
    answers 63 (Some (Begin 0) ∷ Some (Write 0 7 (1 ∷ [])) ∷ Some (Begin 1) ∷ Some (Read 1 7) ∷ Some (Abort 0)
    ∷ Some (Read 1 7) ∷ [])
    ≡ reply.Done ∷ reply.Done ∷ reply.Done ∷ reply.Busy 0 ∷ reply.Aborted ∷ reply.Nothing ∷ []

-- a read keeps the writers of other sessions off until its session ends
abbrev pub two_readers : List Line
two_readers =
    Some (Begin 0) ∷ Some (Begin 1) ∷ Some (Read 0 9) ∷ Some (Read 1 9) ∷ Some (Write 0 9 aa) ∷ Some (Commit 1)
    ∷ Some (Write 0 9 aa) ∷ Some (Commit 0) ∷ Some (Get 9) ∷ []

abbrev pub ReadKeepsWritersOff : Type 0
ReadKeepsWritersOff =
    answers 63 two_readers
    ≡ reply.Done ∷ reply.Done ∷ reply.Nothing ∷ reply.Nothing ∷ reply.Busy 1 ∷ reply.Committed 1
    ∷ reply.Done ∷ reply.Committed 2 ∷ reply.Value aa ∷ []

-- sessions that aren't there, or are there already
abbrev pub SessionsRefused : Type 0
SessionsRefused =
    answers 63 (Some (Begin 8) ∷ Some (Read 0 0) ∷ Some (Begin 0) ∷ Some (Begin 0) ∷ Some (Set 5 (171 ∷ []))
    ∷ Some (Get 5) ∷ [])
    ≡ reply.Refused BadSession ∷ reply.Refused BadSession ∷ reply.Done ∷ reply.Refused BadSession ∷ reply.Committed 1
    ∷ reply.Value (171 ∷ []) ∷ []

-- a scan answers for the records that have a value, and for its first busy one
abbrev pub ScanAmongWrites : Type 0
ScanAmongWrites =
    answers 63 (Some (Set 2 aa) ∷ Some (Set 4 []) ∷ Some (Begin 0) ∷ Some (Scan 0 0 6) ∷ Some (Begin 1)
    ∷ Some (Write 1 9 (1 ∷ []))
    ∷ Some (Scan 0 5 8) ∷ Some (Set 6 (187 ∷ [])) ∷ Some (Scan 0 500 64) ∷ [])
    ≡ reply.Committed 1 ∷ reply.Committed 2 ∷ reply.Done
    ∷ reply.Items (record { number = 2; value = aa } ∷ record { number = 4; value = [] } ∷ [])
    ∷ reply.Done ∷ reply.Done ∷ reply.Busy 1 ∷ reply.Committed 3 ∷ reply.Refused NoRecord ∷ []

abbrev pub ErasedBeforeCommit : Type 0
ErasedBeforeCommit =
    answers 63 (Some (Begin 0) ∷ Some (Write 0 1 aa) ∷ Some (Erase 0 1) ∷ Some (Read 0 1) ∷ Some (Commit 0)
    ∷ Some (Get 1) ∷ [])
    ≡ reply.Done ∷ reply.Done ∷ reply.Done ∷ reply.Nothing ∷ reply.Committed 1 ∷ reply.Nothing ∷ []

-- the lines after a quit aren't read
abbrev pub QuitEnds : Type 0
QuitEnds = answers 63 (Some Quit ∷ Some (Get 5) ∷ []) ≡ reply.Bye ∷ []

-- The log's budget. A session fills the log, and a checkpoint makes room for what follows it.
abbrev pub one_writer : List Line
one_writer = Some (Begin 0) ∷ replicate 7 (Some (Write 0 1 aa)) ++ Some (Abort 0) ∷ Some Stat ∷ Some (Set 0 aa) ∷ []

abbrev pub CheckpointMakesRoom : Type 0
CheckpointMakesRoom =
    answers 15 one_writer
    ≡ replicate 7 reply.Done ++ reply.Full 7 7 15 ∷ reply.Aborted
    ∷ reply.Stat (record { commits = 0; used = 14; owed = 0; cap = 15; active = 0 }) ∷ reply.Committed 1 ∷ []

abbrev pub HundredSets : Type 0
HundredSets =
    answers 15 (replicate 100 (Some (Set 0 aa)) ++ Some Stat ∷ [])
    ≡ map reply.Committed (range_with_len 1 100)
    ++ reply.Stat (record { commits = 100; used = 3; owed = 0; cap = 15; active = 0 }) ∷ []

-- eight sessions want to begin, and the last one only can when another has ended and a checkpoint has made room
abbrev pub eight_sessions : List Line
eight_sessions =
    Some (Begin 0) ∷ Some (Begin 1) ∷ Some (Begin 2) ∷ Some (Begin 3) ∷ Some (Begin 4) ∷ Some (Begin 5) ∷ Some (Begin 6)
    ∷ Some (Begin 7)
    ∷ Some (Commit 0) ∷ Some (Begin 7) ∷ []

abbrev pub EightSessions : Type 0
EightSessions =
    answers 15 (eight_sessions ++ Some Stat ∷ [])
    ≡ replicate 7 reply.Done ++ reply.Full 7 7 15 ∷ reply.Committed 1 ∷ reply.Done
    ∷ reply.Stat (record { commits = 1; used = 8; owed = 7; cap = 15; active = 7 }) ∷ []

-- a run that begins on the 12 records of the one before makes a checkpoint before its first set, and none before a get
abbrev pub RoomFromTheStart : Type 0
RoomFromTheStart =
    replies (turns (opened (slice_set blank 0 (Some aa)) 4 12 15) (Some (Get 0) ∷ Some Stat ∷ Some (Set 0 aa)
    ∷ Some Stat ∷ []) [])
    ≡ reply.Value aa ∷ reply.Stat (record { commits = 4; used = 12; owed = 0; cap = 15; active = 0 })
    ∷ reply.Committed 5 ∷ reply.Stat (record { commits = 5; used = 3; owed = 0; cap = 15; active = 0 }) ∷ []

-- the command frees all that no active session needs, also where none is due
abbrev pub CheckpointOnDemand : Type 0
CheckpointOnDemand =
    answers 15 (Some (Set 0 aa) ∷ Some (Begin 0) ∷ Some (Write 0 1 aa) ∷ Some Checkpoint ∷ Some Stat ∷ [])
    ≡ reply.Committed 1 ∷ reply.Done ∷ reply.Done ∷ reply.Checked
    ∷ reply.Stat (record { commits = 1; used = 2; owed = 2; cap = 15; active = 1 }) ∷ []

-- Marks. What is written behind a mark is dropped, and stays locked; what is written in front of it is committed.
abbrev pub one_marker : List Line
one_marker =
    Some (Begin 0) ∷ Some (Write 0 1 aa) ∷ Some (Mark 0) ∷ Some (Write 0 1 (187 ∷ [])) ∷ Some (Write 0 2 (204 ∷ []))
    ∷ Some (Back 0 None) ∷ Some (Read 0 1) ∷ Some (Read 0 2) ∷ Some (Get 2) ∷ Some (Commit 0) ∷ Some (Get 1)
    ∷ Some (Get 2) ∷ []

abbrev pub BackToAMark : Type 0
BackToAMark =
    answers 63 one_marker
    ≡ replicate 5 reply.Done ++ reply.Back 2 ∷ reply.Value aa ∷ reply.Nothing ∷ reply.Busy 0 ∷ reply.Committed 1
    ∷ reply.Value aa ∷ reply.Nothing ∷ []

-- a session that set no mark has it at its begin, and what is taken back makes as many log records as it had made
abbrev pub BackMakesRecords : Type 0
BackMakesRecords =
    answers 15 (Some (Begin 0) ∷ replicate 6 (Some (Write 0 1 aa)) ++ Some (Back 0 None) ∷ Some Stat
    ∷ Some (Write 0 1 aa) ∷ Some (Back 0 None) ∷ Some (Commit 0) ∷ [])
    ≡ replicate 7 reply.Done ++ reply.Back 6
    ∷ reply.Stat (record { commits = 0; used = 13; owed = 1; cap = 15; active = 1 }) ∷ reply.Full 13 1 15
    ∷ reply.Back 0 ∷ reply.Committed 1 ∷ []

-- a mark counts what stands, not what was dropped, and a back to it leaves it where it is
abbrev pub MarkCountsWhatStands : Type 0
MarkCountsWhatStands =
    answers 63 (Some (Begin 0) ∷ Some (Write 0 1 aa) ∷ Some (Write 0 2 aa) ∷ Some (Back 0 None) ∷ Some (Write 0 1 [])
    ∷ Some (Mark 0) ∷ Some (Write 0 2 aa) ∷ Some (Write 0 3 aa) ∷ Some (Back 0 None) ∷ Some (Write 0 4 aa)
    ∷ Some (Back 0 None) ∷ Some (Commit 0) ∷ Some (Begin 1) ∷ Some (Scan 1 0 8) ∷ [])
    ≡ replicate 3 reply.Done ++ reply.Back 2 ∷ replicate 4 reply.Done ++ reply.Back 2 ∷ reply.Done ∷ reply.Back 1
    ∷ reply.Committed 1 ∷ reply.Done ∷ reply.Items (record { number = 1; value = [] } ∷ []) ∷ []

-- of four writes the mark stands behind the third; so many stay as are asked for, and a mark behind them falls to there
abbrev pub BackToANumber : Type 0
BackToANumber =
    answers 63 (Some (Mark 0) ∷ Some (Back 0 (Some 0)) ∷ Some (Begin 0) ∷ Some (Write 0 1 aa) ∷ Some (Write 0 2 aa)
    ∷ Some (Write 0 3 aa) ∷ Some (Mark 0) ∷ Some (Erase 0 1) ∷ Some (Back 0 (Some 5)) ∷ Some (Back 0 (Some 4))
    ∷ Some (Back 0 (Some 2)) ∷ Some (Back 0 None) ∷ Some (Back 0 (Some 3)) ∷ Some (Write 0 4 aa) ∷ Some (Back 0 None)
    ∷ Some (Scan 0 0 8) ∷ Some (Abort 0) ∷ Some (Scan 0 0 8) ∷ Some (Get 1) ∷ [])
    ≡ reply.Refused BadSession ∷ reply.Refused BadSession ∷ replicate 6 reply.Done ++ reply.Refused BadMark
    ∷ reply.Back 0 ∷ reply.Back 2 ∷ reply.Back 0 ∷ reply.Refused BadMark ∷ reply.Done ∷ reply.Back 1
    ∷ reply.Items (record { number = 1; value = aa } ∷ record { number = 2; value = aa } ∷ []) ∷ reply.Aborted
    ∷ reply.Refused BadSession ∷ reply.Nothing ∷ []

-- Full pages. Of two pages the first has 3,852 octets: 19 values of 200, and one of 52.
abbrev pub much : List Content
much = replicate 19 (Some (replicate 200 90)) ++ None ∷ Some (replicate 52 90) ∷ replicate 43 None

abbrev pub answers_with_much : ℕ → List Line → List Reply
answers_with_much cap lines = replies (turns (opened much 0 0 cap) lines [])

-- a page can be full to its last octet; other pages have room, and a shorter value makes some
abbrev pub FullToTheLastOctet : Type 0
FullToTheLastOctet =
    answers_with_much 63 (Some (Set 19 (replicate 101 90)) ∷ Some (Set 19 (replicate 100 90)) ∷ Some (Set 21 aa)
    ∷ Some (Set 21 []) ∷ Some (Set 32 aa) ∷ Some (Set 0 aa) ∷ Some (Set 21 aa) ∷ [])
    ≡ reply.PageFull 0 3953 ∷ reply.Committed 1 ∷ reply.PageFull 0 3953 ∷ reply.Committed 2 ∷ reply.Committed 3
    ∷ reply.Committed 4 ∷ reply.Committed 5 ∷ []

-- room that a session makes is there when it commits, since it may abort
abbrev pub RoomAtTheCommit : Type 0
RoomAtTheCommit =
    answers_with_much 63 (Some (Begin 0) ∷ Some (Write 0 0 aa) ∷ Some (Set 19 (replicate 200 90)) ∷ Some (Commit 0)
    ∷ Some (Set 19 (replicate 200 90)) ∷ [])
    ≡ reply.Done ∷ reply.Done ∷ reply.PageFull 0 4052 ∷ reply.Committed 1 ∷ reply.Committed 2 ∷ []

-- what a session wrote takes up room also where it has written less there since, and until it takes it back
abbrev pub RoomForPendingWrites : Type 0
RoomForPendingWrites =
    answers_with_much 63 (Some (Begin 0) ∷ Some (Write 0 19 (replicate 100 90)) ∷ Some (Erase 0 19) ∷ Some (Begin 1)
    ∷ Some (Write 1 21 aa) ∷ Some (Set 21 aa) ∷ Some (Back 0 (Some 1)) ∷ Some (Set 21 aa) ∷ Some (Back 0 (Some 0))
    ∷ Some (Write 1 21 aa) ∷ Some (Write 0 19 (replicate 100 90)) ∷ Some (Write 0 19 (replicate 99 90)) ∷ [])
    ≡ replicate 4 reply.Done ++ reply.PageFull 0 3953 ∷ reply.PageFull 0 3953 ∷ reply.Back 1 ∷ reply.PageFull 0 3953
    ∷ reply.Back 1 ∷ reply.Done ∷ reply.PageFull 0 3953 ∷ reply.Done ∷ []

-- a log that has no room is told of first
abbrev pub FullLogFirst : Type 0
FullLogFirst =
    answers_with_much 5 (Some (Begin 0) ∷ Some (Write 0 19 (replicate 101 90)) ∷ Some (Write 0 19 aa)
    ∷ Some (Write 0 19 (replicate 101 90)) ∷ Some (Set 600 (replicate 101 90)) ∷ [])
    ≡ reply.Done ∷ reply.PageFull 0 3953 ∷ reply.Done ∷ reply.Full 2 2 5 ∷ reply.Refused NoRecord ∷ []

-- What a run asks of the cache.
abbrev pub TouchesOfTwoReaders : Type 0
TouchesOfTwoReaders =
    run_touches (turns (fresh 63) two_readers [])
    ≡ touch 0 false ∷ touch 0 false ∷ touch 0 true ∷ touch 0 false ∷ []

-- an abort touches the pages of its writes from the last one back, and the set that finds the log full makes a
-- checkpoint first
abbrev pub TouchesOfAnAbort : Type 0
TouchesOfAnAbort =
    run_touches (turns (fresh 15) (Some (Begin 0) ∷ Some (Write 0 33 aa) ∷ Some (Write 0 64 aa)
    ∷ Some (Write 0 1 aa) ∷ Some (Abort 0) ∷ Some (Set 511 aa) ∷ []) [])
    ≡ touch 1 true ∷ touch 2 true ∷ touch 0 true ∷ touch 0 true ∷ touch 2 true ∷ touch 1 true ∷ flush
    ∷ touch 15 true ∷ []

-- a back touches the pages of what it drops, an abort those of what stands, both from the last write back
abbrev pub TouchesOfABack : Type 0
TouchesOfABack =
    run_touches (turns (fresh 63) (Some (Begin 0) ∷ Some (Write 0 33 aa) ∷ Some (Mark 0) ∷ Some (Write 0 64 aa)
    ∷ Some (Write 0 96 aa) ∷ Some (Back 0 None) ∷ Some (Back 0 (Some 9)) ∷ Some (Abort 0) ∷ []) [])
    ≡ touch 1 true ∷ touch 2 true ∷ touch 3 true ∷ touch 3 true ∷ touch 2 true ∷ touch 1 true ∷ []

-- a write that its page has no room for touches it without a change, behind the checkpoint that a set makes
abbrev pub TouchesOfAFullPage : Type 0
TouchesOfAFullPage =
    run_touches (turns (opened much 0 12 15) (Some (Set 19 (replicate 101 90)) ∷ Some (Begin 0)
    ∷ Some (Write 0 19 (replicate 101 90)) ∷ Some (Write 0 64 aa) ∷ []) [])
    ≡ flush ∷ touch 0 false ∷ touch 0 false ∷ []

-- What may be left of a run. The opening was told, the text of the first line, which was no commit, and half of that of
-- the second. The second and the third were commits.
abbrev pub told : List ℕ
told = 1 ∷ 2 ∷ 3 ∷ []

abbrev pub texts : List (List ℕ)
texts = (1 ∷ []) ∷ (2 ∷ []) ∷ (3 ∷ 4 ∷ []) ∷ (5 ∷ 6 ∷ []) ∷ (7 ∷ []) ∷ []

abbrev pub marks : List Bool
marks = false ∷ true ∷ true ∷ false ∷ []

abbrev pub AcknowledgedNone : Type 0
AcknowledgedNone = acknowledged told texts marks ≡ 0

abbrev pub AskedForOne : Type 0
AskedForOne = asked_for told texts marks ≡ 1

-- with the second line's text whole, and half of the third's
abbrev pub AcknowledgedOne : Type 0
AcknowledgedOne = acknowledged (told ++ 4 ∷ 5 ∷ []) texts marks ≡ 1

abbrev pub AskedForTwo : Type 0
AskedForTwo = asked_for (told ++ 4 ∷ 5 ∷ []) texts marks ≡ 2

-- with no opening told, no commit can have been asked for
abbrev pub AskedForNone : Type 0
AskedForNone = asked_for [] texts marks ≡ 0

-- with all texts told and a line about a fault after them, all commits are acknowledged, and no more were asked for
abbrev pub AskedForAll : Type 0
AskedForAll = asked_for (told ++ 4 ∷ 5 ∷ 6 ∷ 7 ∷ 9 ∷ 9 ∷ []) texts marks ≡ 2

-- The second transaction of the two readers, and what it is answered alone, on the table that the first one left.
abbrev pub two_readers_run : List Turn
two_readers_run = turns (fresh 63) two_readers []

abbrev pub second_transaction : List Turn
second_transaction = since_begin 0 (reverse (take 8 two_readers_run))

abbrev pub SecondTransaction : Type 0
SecondTransaction = lines_of second_transaction
    ≡ Some (Begin 0) ∷ Some (Read 0 9) ∷ Some (Write 0 9 aa) ∷ Some (Commit 0) ∷ []

abbrev pub second_answers : List Reply
second_answers = reply.Done ∷ reply.Nothing ∷ reply.Done ∷ reply.Committed 2 ∷ []

abbrev pub AnsweredAmongOthers : Type 0
AnsweredAmongOthers = replies second_transaction ≡ second_answers

abbrev pub AnsweredAlone : Type 0
AnsweredAlone = replies (turns (opened_alone (after_commits blank two_readers_run 1) 1 16)
    (lines_of second_transaction) []) ≡ second_answers

-- Three sessions, over a log of 16 blocks. One scans what the two others read and write, one is refused in between, and
-- the begin of the session that is left unfinished makes a checkpoint first.
abbrev pub three_sessions : List Line
three_sessions =
    Some (Set 2 aa) ∷ Some (Begin 0) ∷ Some (Begin 1) ∷ Some (Begin 2) ∷ Some (Read 0 2) ∷ Some (Scan 1 0 4)
    ∷ Some (Write 2 5 (187 ∷ [])) ∷ Some (Write 0 2 (204 ∷ [])) ∷ Some (Get 5) ∷ Some (Read 2 2) ∷ Some (Commit 1)
    ∷ Some (Write 0 2 (204 ∷ [])) ∷ Some (Commit 2) ∷ Some (Write 0 2 (204 ∷ [])) ∷ Some (Begin 1) ∷ Some (Erase 1 7)
    ∷ Some (Read 0 2) ∷ None ∷ Some (Scan 0 0 7) ∷ Some (Commit 0) ∷ Some (Get 2) ∷ []

abbrev pub three_sessions_run : List Turn
three_sessions_run = turns (fresh 15) three_sessions []

-- the items that the scans find
abbrev pub old_item : Item
old_item = record { number = 2; value = aa }

abbrev pub new_items : List Item
new_items = record { number = 2; value = 204 ∷ [] } ∷ record { number = 5; value = 187 ∷ [] } ∷ []

abbrev pub ThreeSessions : Type 0
ThreeSessions =
    replies three_sessions_run
    ≡ reply.Committed 1 ∷ reply.Done ∷ reply.Done ∷ reply.Done ∷ reply.Value aa ∷ reply.Items (old_item ∷ [])
    ∷ reply.Done ∷ reply.Busy 1 ∷ reply.Busy 2 ∷ reply.Value aa ∷ reply.Committed 2
    ∷ reply.Busy 2 ∷ reply.Committed 3 ∷ reply.Done ∷ reply.Done ∷ reply.Done
    ∷ reply.Value (204 ∷ []) ∷ reply.Refused BadLine ∷ reply.Items new_items ∷ reply.Committed 4
    ∷ reply.Value (204 ∷ []) ∷ []

-- the transactions of its last three commits, each up to its commit
abbrev pub scanning : List Turn
scanning = since_begin 1 (reverse (take 11 three_sessions_run))

abbrev pub writing : List Turn
writing = since_begin 2 (reverse (take 13 three_sessions_run))

abbrev pub reading : List Turn
reading = since_begin 0 (reverse (take 20 three_sessions_run))

-- what each is answered alone, where there were so many commits before its own
abbrev pub alone_after : ℕ → List Turn → List Reply
alone_after count own =
    let table = after_commits blank three_sessions_run count in
    replies (turns (opened_alone table count (4 * length own)) (lines_of own) [])

abbrev pub ScanningAlone : Type 0
ScanningAlone =
    (lines_of scanning ≡ Some (Begin 1) ∷ Some (Scan 1 0 4) ∷ Some (Commit 1) ∷ [])
    × (replies scanning ≡ reply.Done ∷ reply.Items (old_item ∷ []) ∷ reply.Committed 2 ∷ [])
    × (alone_after 1 scanning ≡ reply.Done ∷ reply.Items (old_item ∷ []) ∷ reply.Committed 2 ∷ [])

abbrev pub WritingAlone : Type 0
WritingAlone =
    (lines_of writing ≡ Some (Begin 2) ∷ Some (Write 2 5 (187 ∷ [])) ∷ Some (Read 2 2) ∷ Some (Commit 2) ∷ [])
    × (replies writing ≡ reply.Done ∷ reply.Done ∷ reply.Value aa ∷ reply.Committed 3 ∷ [])
    × (alone_after 2 writing ≡ reply.Done ∷ reply.Done ∷ reply.Value aa ∷ reply.Committed 3 ∷ [])

-- the write that was busy twice counts once, and the scan sees it and the other session's commit
abbrev pub ReadingAlone : Type 0
ReadingAlone =
    (lines_of reading
    ≡ Some (Begin 0) ∷ Some (Read 0 2) ∷ Some (Write 0 2 (204 ∷ [])) ∷ Some (Read 0 2) ∷ Some (Scan 0 0 7)
    ∷ Some (Commit 0) ∷ [])
    × (replies reading
    ≡ reply.Done ∷ reply.Value aa ∷ reply.Done ∷ reply.Value (204 ∷ []) ∷ reply.Items new_items
    ∷ reply.Committed 4 ∷ [])
    × (alone_after 3 reading
    ≡ reply.Done ∷ reply.Value aa ∷ reply.Done ∷ reply.Value (204 ∷ []) ∷ reply.Items new_items
    ∷ reply.Committed 4 ∷ [])

-- A transaction has taken back a write, and another session has made its page full since. Alone it answers as among the
-- others, since no page is full there; with the test of pages it wouldn't.
abbrev pub made_full : List Turn
made_full = turns (opened much 0 0 63) (Some (Begin 0) ∷ Some (Write 0 19 (replicate 100 90)) ∷ Some (Back 0 None)
    ∷ Some (Set 21 (replicate 100 90)) ∷ Some (Write 0 33 aa) ∷ Some (Commit 0) ∷ []) []

abbrev pub taking_back : List Turn
taking_back = since_begin 0 (reverse made_full)

abbrev pub TakingBackAlone : Type 0
TakingBackAlone =
    (replies taking_back ≡ reply.Done ∷ reply.Done ∷ reply.Back 1 ∷ reply.Done ∷ reply.Committed 2 ∷ [])
    × (replies (turns (opened_alone (after_commits much made_full 1) 1 20) (lines_of taking_back) [])
    ≡ reply.Done ∷ reply.Done ∷ reply.Back 1 ∷ reply.Done ∷ reply.Committed 2 ∷ [])
    × (replies (turns (opened (after_commits much made_full 1) 1 0 20) (lines_of taking_back) [])
    ≡ reply.Done ∷ reply.PageFull 0 4052 ∷ reply.Back 0 ∷ reply.Done ∷ reply.Committed 2 ∷ [])
