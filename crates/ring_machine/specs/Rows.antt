-- Runs that were worked out by hand. Of each, the units that it appends.
use Rattle.std.specs.Prelude.{◌≡◌, ℕ, List, [], ◌∷◌, ◌++◌, replicate, Some, None}
use Rattle.record_model.specs.declared.words.Command.TheVariants.{Begin, Write, Abort, Mark, Back, Set, Checkpoint}
use Rattle.record_model.specs.Run.{Line, turns}
use Rattle.record_model.specs.Rows.{fresh}
use Rattle.second_chance.specs.Machine.{rules_of}
use Rattle.ring_machine.specs.Tail.{empty_at}
use Rattle.ring_machine.specs.Machine.{Machine, after_all}
use Rattle.ring_machine.specs.Commands.{run_work}

-- devices without a block, a group or a master unit
abbrev pub nothing_written : Machine
nothing_written = record {
  cache = record { pool = []; queue = record { first = 0; groups = [] } };
  tail = empty_at 0;
  masters = 0;
}

-- what these lines leave, with a pool of so many pages
abbrev pub run_with : ℕ → List Line → Machine
run_with pages lines = after_all (rules_of pages 8) (run_work (turns (fresh 63) lines [])) nothing_written

-- each set is one block, however short
abbrev pub OneBlockForEachSet : Type 0
OneBlockForEachSet = (run_with 1 (replicate 3 (Some (Set 0 (170 ∷ []))))).tail ≡ empty_at 3

-- a session's writes on three pages
abbrev pub three_writes : List Line
three_writes = Some (Set 0 (1 ∷ [])) ∷ Some (Begin 0) ∷ Some (Write 0 0 (187 ∷ [])) ∷ Some (Write 0 32 (204 ∷ []))
    ∷ Some (Write 0 64 (221 ∷ [])) ∷ []

-- with room for one page the log is sealed before each of them is pushed
abbrev pub PushedPagesWait : Type 0
PushedPagesWait = (run_with 1 three_writes).tail ≡ record { next = 3; used = 27; waiting = 2 ∷ [] }

abbrev pub UndonePagesWait : Type 0
UndonePagesWait = (run_with 1 (three_writes ++ Some (Abort 0) ∷ [])).tail
    ≡ record { next = 5; used = 43; waiting = 0 ∷ [] }

-- with room for all of them nothing is pushed, and all stands in one tail
abbrev pub OneTailForAll : Type 0
OneTailForAll = (run_with 4 (three_writes ++ Some (Abort 0) ∷ [])).tail
    ≡ record { next = 1; used = 182; waiting = 0 ∷ 1 ∷ 2 ∷ 2 ∷ 1 ∷ 0 ∷ [] }

-- a way back to the Begin takes them back too, and ends nothing
abbrev pub BackEndsNothing : Type 0
BackEndsNothing = (run_with 4 (three_writes ++ Some (Back 0 None) ∷ [])).tail
    ≡ record { next = 1; used = 173; waiting = 0 ∷ 1 ∷ 2 ∷ 2 ∷ 1 ∷ 0 ∷ [] }

-- a mark asks nothing, and behind it is nothing to go back over
abbrev pub MarksAskNothing : Type 0
MarksAskNothing = (run_with 4 (three_writes ++ Some (Mark 0) ∷ Some (Back 0 None) ∷ [])).tail
    ≡ record { next = 1; used = 80; waiting = 2 ∷ 1 ∷ 0 ∷ [] }

-- long values fill a block, and a checkpoint seals what is left
abbrev pub long_value : List ℕ
long_value = replicate 100 171

abbrev pub six_writes : List Line
six_writes = Some (Begin 0) ∷ Some (Write 0 0 long_value) ∷ Some (Write 0 33 long_value) ∷ Some (Write 0 66 long_value)
    ∷ Some (Write 0 3 long_value) ∷ Some (Write 0 36 long_value) ∷ Some (Write 0 69 long_value) ∷ []

abbrev pub FullTailIsSealed : Type 0
FullTailIsSealed =
    let now = run_with 4 (six_writes ++ Some (Abort 0) ∷ Some Checkpoint ∷ []) in
    (now.tail ≡ empty_at 2) × (now.masters ≡ 1)
