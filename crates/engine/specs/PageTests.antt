-- Commands whose page is tested for room, and what the writes of sessions tell of the room that they want.
use Rattle.std.specs.Prelude.{◌≡◌, ◌≢◌, ℕ, ◌-◌, List, [], ◌∷◌, ◌++◌, length, map, take, false, Option, Some, None}
use Rattle.record_model.specs.State.{Content, State, Write, length_of, session_at, writes_of}
use Rattle.record_model.specs.declared.words.Command.{Command}
use Rattle.record_model.specs.declared.words.Command.TheVariants as command
use Rattle.record_model.specs.declared.words.Reply.{Reply}
use Rattle.record_model.specs.Step.{Outcome, carried_through, wants_page_room}
use Rattle.record_model.specs.Touches.{CacheOp, record_touches, tested_touches}
use Rattle.ring_machine.specs.Machine.{RingOp, cached}
use Rattle.ring_machine.specs.Commands.{record_work, stands_at}
use Rattle.lock_table.specs.declared.lock.Lock.{Lock}
use Rattle.lock_table.specs.Locks.{has_written}
use Rattle.footprints.specs.declared.footprint.Footprint.{Footprint}
use Rattle.footprints.specs.Longest.{of_session, lengths_on}

-- Tests.

-- why a record's page has no room for what is to be written there; where a value is only taken away it has
abbrev pub full_for : State → ℕ → Content → Option Reply
full_for s number None = None
full_for s number (Some value) = wants_page_room s number value

-- the command by which a session gives a record this content
abbrev pub write_by : ℕ → ℕ → Content → Command
write_by n number None = command.Erase n number
write_by n number (Some value) = command.Write n number value

-- What a command answers and leaves, and what it asks of the cache and the log, by what the test of its page gives.
abbrev pub tested : State → Command → Option Reply → Outcome
tested s command filled = carried_through s command [] filled

abbrev pub touches_by : State → Command → Option Reply → List CacheOp
touches_by s command None = record_touches s command
touches_by s command (Some refused) = tested_touches command

abbrev pub work_by : State → Command → Option Reply → List RingOp
work_by s command None = record_work s command
work_by s command (Some refused) = map cached (tested_touches command)

-- Footprints.

-- what a write tells of its record, behind these earlier ones of its session
abbrev pub footprint_of : List Content → List Write → Write → Footprint
footprint_of table earlier write = record {
  number = write.0;
  stood = length_of (stands_at table earlier write.0);
  written = length_of write.1;
}

-- what writes tell, each behind those before it
abbrev pub footprints_of : List Content → List Write → List Write → List Footprint
footprints_of table earlier [] = []
footprints_of table earlier (write ∷ later) =
    footprint_of table earlier write ∷ footprints_of table (earlier ++ write ∷ []) later

-- each session's footprints are those of its writes that stand, in order
abbrev pub FootprintsAre : List (List Footprint) → State → Type 0
FootprintsAre standing s = (n : ℕ) → of_session standing n ≡ footprints_of s.table [] (writes_of (session_at s n))

-- On every site: there are those of eight sessions, and none on a record that its session hasn't locked to write it.
pub record AreLocked (standing : List (List Footprint)) (held : List Lock) : Type 0 where
  pub eight : length standing ≡ 8
  pub locked : (n r : ℕ) → has_written held n r ≡ false → lengths_on r (of_session standing n) ≡ []

-- a session's last footprints are gone, so many, and all others are as before
pub record AreTakenBack (old new : List (List Footprint)) (n count : ℕ) : Type 0 where
  pub own : of_session new n ≡ take (length (of_session old n) - count) (of_session old n)
  pub others : (m : ℕ) → m ≢ n → of_session new m ≡ of_session old m
  pub eight : length new ≡ length old
