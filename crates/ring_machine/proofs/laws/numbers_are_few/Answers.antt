use Rattle.ring_machine.proofs.Counts.{commands_log_few, few_are_enough}
use Rattle.ring_machine.proofs.RestartCounts.{restarts_log_few}
use Rattle.ring_machine.proofs.laws.numbers_are_few.Goals as goal

pub returns-clause-few : goal.returns-clause-few
returns-clause-few c = few_are_enough

pub returns-clause-commands : goal.returns-clause-commands
returns-clause-commands c = commands_log_few

pub returns-clause-restart : goal.returns-clause-restart
returns-clause-restart c = restarts_log_few
