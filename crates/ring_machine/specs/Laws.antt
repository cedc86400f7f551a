-- What follows from the machine, for those who build on it.
use Rattle.std.specs.Prelude.{◌≡◌, List, ◌++◌, length}
use Rattle.std.specs.Option.{option_or}
use Rattle.record_model.specs.declared.words.Command.{Command}
use Rattle.record_model.specs.State.{State}
use Rattle.record_model.specs.Touches.{command_touches}
use Rattle.log_records.specs.declared.log_record.LogRecord.{LogRecord}
use Rattle.log_records.specs.Spelling.{spelling}
use Rattle.log_records.specs.Restart.{restart_touches}
use Rattle.log_records.specs.Sound.{LogicalImage}
use Rattle.second_chance.specs.Machine.{Rules, after_works}
use Rattle.ring_machine.specs.Machine.{Machine, RingOp, after_all, first_worn}
use Rattle.ring_machine.specs.Octets.{octets_of}
use Rattle.ring_machine.specs.Commands.{command_work}
use Rattle.ring_machine.specs.Restart.{restart_work}

-- work after work
abbrev pub RingOpsCompose : Type 0
RingOpsCompose = (rules : Rules) (first later : List RingOp) (m : Machine)
    → after_all rules (first ++ later) m ≡ after_all rules later (after_all rules first m)

-- the first ring that is worn is worn by the first of some work, or by what follows
abbrev pub FirstIsFirst : Type 0
FirstIsFirst = (rules : Rules) (first later : List RingOp) (m : Machine)
    → first_worn rules (first ++ later) m
    ≡ option_or (first_worn rules first m) (first_worn rules later (after_all rules first m))

-- a record has as many octets as its spelling
abbrev pub OctetsAreSpelled : Type 0
OctetsAreSpelled = (rec : LogRecord) → length (spelling rec) ≡ octets_of rec

-- what a command and a restart ask of the cache is what the machine of the cache alone does
abbrev pub CommandsAgree : Type 0
CommandsAgree = (rules : Rules) (s : State) (command : Command) (m : Machine)
    → (after_all rules (command_work s command) m).cache
    ≡ after_works rules (command_touches s command) m.cache

abbrev pub RestartsAgree : Type 0
RestartsAgree = (rules : Rules) (p : LogicalImage) (m : Machine)
    → (after_all rules (restart_work p) m).cache ≡ after_works rules (restart_touches p) m.cache
