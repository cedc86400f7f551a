-- What commands ask of log and cache.
use Rattle.std.specs.Prelude.{ℕ, List, [], ◌∷◌, ◌++◌, map, flat_map, reverse, unwrap_or, Some, None, option_map}
use Rattle.std.specs.Prelude.{if◌then◌else◌}
use Rattle.std.specs.List.{range_with_len}
use Rattle.record_model.specs.declared.words.Command.{Command}
use Rattle.record_model.specs.declared.words.Command.TheVariants as command
use Rattle.record_model.specs.State.{Content, Write, State, content_at, last_write, session_at, writes_of, seen}
use Rattle.record_model.specs.Step.{makes_checkpoint, is_accepted, is_page_full, dropped, going_back}
use Rattle.record_model.specs.Run.{Line, Turn}
use Rattle.record_model.specs.Touches.{flush, page_of, read_touch, tested_touches}
use Rattle.ring_machine.specs.Machine.{RingOp, cached, logged, changed, force, save}
use Rattle.ring_machine.specs.Octets.{update_octets, clr_octets}

-- a page is read
abbrev pub reads : ℕ → List RingOp
reads number = cached (read_touch number) ∷ []

-- a transaction begins, changes a record whose page is in front, writes one, is committed, takes a write back, and is
-- ended
abbrev pub begins : List RingOp
begins = logged 1 ∷ []

abbrev pub changes : ℕ → Content → Content → List RingOp
changes number before after = changed (update_octets before after) (page_of number) ∷ []

abbrev pub writes : ℕ → Content → Content → List RingOp
writes number before after = reads number ++ changes number before after

abbrev pub commits : List RingOp
commits = logged 17 ∷ force ∷ []

abbrev pub takes_back : Write → List RingOp
takes_back write = cached (read_touch write.0) ∷ changed (clr_octets write.1) (page_of write.0) ∷ []

abbrev pub ends : List RingOp
ends = logged 9 ∷ []

-- a checkpoint: what is unsealed is sealed, the changed pages are pushed, and a master is saved
abbrev pub saves : List RingOp
saves = force ∷ cached flush ∷ save ∷ []

-- what stands at a record before a transaction that has made these writes writes there: its last own write, or the
-- table's content
abbrev pub stands_at : List Content → List Write → ℕ → Content
stands_at table earlier number = unwrap_or (last_write earlier number) (content_at table number)

-- of each write of a transaction, behind these ones, what stood there before it
abbrev pub stood_before : List Content → List Write → List Write → List Write
stood_before table earlier [] = []
stood_before table earlier (write ∷ later) =
    (write.0, stands_at table earlier write.0) ∷ stood_before table (earlier ++ write ∷ []) later

-- the later ones of a transaction's writes are taken back, the last one first
abbrev pub goes_back : List Content → List Write → List Write → List RingOp
goes_back table earlier later = flat_map takes_back (reverse (stood_before table earlier later))

-- a transaction is undone
abbrev pub undoes : List Content → List Write → List RingOp
undoes table made = goes_back table [] made ++ ends

-- what a command asks once its tests have let it through
abbrev pub record_work : State → Command → List RingOp
record_work s (command.Begin n) = begins
record_work s (command.Read n number) = reads number
record_work s (command.Write n number value) = writes number (seen s n number) (Some value)
record_work s (command.Erase n number) = writes number (seen s n number) None
record_work s (command.Scan n number count) = flat_map reads (range_with_len number count)
record_work s (command.Commit n) = commits
record_work s (command.Abort n) = undoes s.table (writes_of (session_at s n))
record_work s (command.Mark n) = []
record_work s (command.Back n standing) =
    goes_back s.table (writes_of (option_map (going_back standing) (session_at s n)))
    (dropped standing (session_at s n))
record_work s (command.Get number) = reads number
record_work s (command.Set number value) =
    reads number ++ begins ++ changes number (content_at s.table number) (Some value) ++ commits
record_work s command.Checkpoint = []
record_work s command.Cache = []
record_work s command.Stat = []
record_work s command.Quit = []

-- what it asks where it is carried out, or where its page is found full: nothing is logged there
abbrev pub page_work : State → Command → List RingOp
page_work s command =
    if is_accepted s command then record_work s command
    else (if is_page_full s command then map cached (tested_touches command) else [])

-- and with its checkpoint, where it makes one
abbrev pub command_work : State → Command → List RingOp
command_work s command = (if makes_checkpoint s command then saves else []) ++ page_work s command

abbrev pub line_work : State → Line → List RingOp
line_work s None = []
line_work s (Some command) = command_work s command

-- what a run asks of log and cache
abbrev pub run_work : List Turn → List RingOp
run_work run = flat_map (λ t. line_work t.before t.line) run
