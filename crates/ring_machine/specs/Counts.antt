-- How many numbers some work takes from the rings on the log's device, and that no ring is worn where they have so
-- many.
use Rattle.std.specs.Prelude.{◌≡◌, ℕ, ◌+◌, ◌^◌, ◌≤◌, List, [], ◌∷◌, Some, None, if◌then◌else◌}
use Rattle.record_model.specs.declared.words.CacheLine.{CacheLine}
use Rattle.record_model.specs.State.{State}
use Rattle.record_model.specs.Step.{makes_checkpoint}
use Rattle.record_model.specs.Run.{Line, line_step}
use Rattle.log_records.specs.Unfinished.{owed}
use Rattle.log_records.specs.Sound.{LogicalImage, IsSound}
use Rattle.second_chance.specs.Machine.{Rules, next_group}
use Rattle.ring_machine.specs.Tail.{empty_at}
use Rattle.ring_machine.specs.Machine.{Machine, RingOp, logged, changed, save, after_all, first_worn}
use Rattle.ring_machine.specs.Commands.{line_work}
use Rattle.ring_machine.specs.Restart.{restart_work}

-- how many records some work logs, and how many master units it saves
abbrev pub records_in : List RingOp → ℕ
records_in [] = 0
records_in (logged octets ∷ works) = records_in works + 1
records_in (changed octets page ∷ works) = records_in works + 1
records_in (_ ∷ works) = records_in works

abbrev pub saves_in : List RingOp → ℕ
saves_in [] = 0
saves_in (save ∷ works) = saves_in works + 1
saves_in (_ ∷ works) = saves_in works

-- Where the log has a block for each record, and the rings have the numbers of all master units and groups, no ring is
-- worn. The tail has no records at the beginning.
abbrev pub FewAreEnough : Type 0
FewAreEnough = (rules : Rules) (works : List RingOp) (m : Machine) → m.tail ≡ empty_at m.tail.next
    → m.tail.next + records_in works ≤ 2 ^ 40 → m.masters + saves_in works ≤ 2 ^ 40
    → next_group (after_all rules works m).cache ≤ 2 ^ 40 → first_worn rules works m ≡ None

-- how many master units a line saves
abbrev pub saved_by : State → Line → ℕ
saved_by s None = 0
saved_by s (Some command) = if makes_checkpoint s command then 1 else 0

-- a line logs no more records than the model counts
abbrev pub CommandsLogFew : Type 0
CommandsLogFew = (s : State) (line : Line) (listing : List CacheLine)
    → (s.made + records_in (line_work s line) ≤ (line_step s line listing).after.made)
    × (saves_in (line_work s line) ≡ saved_by s line)

-- a restart logs no more than undo may take, and saves one master unit
abbrev pub RestartsLogFew : Type 0
RestartsLogFew = (p : LogicalImage) → IsSound p
    → (records_in (restart_work p) ≤ owed p.log) × (saves_in (restart_work p) ≡ 1)
