use Rattle.ring_machine.proofs.Agreeing.{commands_agree, restarts_agree}
use Rattle.ring_machine.proofs.laws.machines_agree.Goals as goal

pub returns-clause-commands : goal.returns-clause-commands
returns-clause-commands c = commands_agree

pub returns-clause-restart : goal.returns-clause-restart
returns-clause-restart c = restarts_agree
