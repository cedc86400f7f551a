-- What commands ask of the page cache.
use Rattle.std.specs.Prelude.{ℕ, Bool, true, false, List, [], ◌∷◌, ◌++◌, map, flat_map, reverse, Some, None}
use Rattle.std.specs.Prelude.{if◌then◌else◌}
use Rattle.std.specs.List.{range_with_len}
use Rattle.record_model.specs.declared.words.Command.{Command}
use Rattle.record_model.specs.declared.words.Command.TheVariants.{Begin, Read, Write, Erase, Scan, Commit, Abort, Get}
use Rattle.record_model.specs.declared.words.Command.TheVariants.{Set, Checkpoint, Cache, Stat, Quit, Mark, Back}
pub use Rattle.record_model.specs.State.{page_of}
use Rattle.record_model.specs.State.{State, session_at, writes_of}
use Rattle.record_model.specs.State as state
use Rattle.record_model.specs.Step.{makes_checkpoint, is_accepted, is_page_full, dropped}
use Rattle.record_model.specs.Run.{Line, Turn}

-- a touch of a page, with a change or without, or a flush of all changed pages
pub data CacheOp : Type 0 where
  touch : (page : ℕ) (changed : Bool) → CacheOp
  flush : CacheOp

abbrev pub read_touch : ℕ → CacheOp
read_touch number = touch (page_of number) false

abbrev pub write_touch : ℕ → CacheOp
write_touch number = touch (page_of number) true

abbrev pub takes_back_touches : List state.Write → List CacheOp
takes_back_touches writes = map (λ write. write_touch write.0) (reverse writes)

-- the touches of a command that is accepted: an abort goes from the last write that stands to the first, and a back
-- from the last that it drops
abbrev pub record_touches : State → Command → List CacheOp
record_touches s (Begin n) = []
record_touches s (Read n number) = read_touch number ∷ []
record_touches s (Write n number value) = write_touch number ∷ []
record_touches s (Erase n number) = write_touch number ∷ []
record_touches s (Scan n number count) = map read_touch (range_with_len number count)
record_touches s (Commit n) = []
record_touches s (Abort n) = takes_back_touches (writes_of (session_at s n))
record_touches s (Mark n) = []
record_touches s (Back n standing) = takes_back_touches (dropped standing (session_at s n))
record_touches s (Get number) = read_touch number ∷ []
record_touches s (Set number value) = write_touch number ∷ []
record_touches s Checkpoint = []
record_touches s Cache = []
record_touches s Stat = []
record_touches s Quit = []

-- the touch of a command whose page is found full: that of its record's page, without a change
abbrev pub tested_touches : Command → List CacheOp
tested_touches (Begin n) = []
tested_touches (Read n number) = []
tested_touches (Write n number value) = read_touch number ∷ []
tested_touches (Erase n number) = []
tested_touches (Scan n number count) = []
tested_touches (Commit n) = []
tested_touches (Abort n) = []
tested_touches (Mark n) = []
tested_touches (Back n standing) = []
tested_touches (Get number) = []
tested_touches (Set number value) = read_touch number ∷ []
tested_touches Checkpoint = []
tested_touches Cache = []
tested_touches Stat = []
tested_touches Quit = []

-- the touches of a command that is carried out, or that is found to want a page that is full
abbrev pub page_touches : State → Command → List CacheOp
page_touches s command =
    if is_accepted s command then record_touches s command
    else (if is_page_full s command then tested_touches command else [])

-- what a command asks of the cache: the flush of its checkpoint, and its touches
abbrev pub command_touches : State → Command → List CacheOp
command_touches s command = (if makes_checkpoint s command then flush ∷ [] else []) ++ page_touches s command

abbrev pub line_touches : State → Line → List CacheOp
line_touches s None = []
line_touches s (Some command) = command_touches s command

-- what a run asks of the cache
abbrev pub run_touches : List Turn → List CacheOp
run_touches run = flat_map (λ t. line_touches t.before t.line) run
