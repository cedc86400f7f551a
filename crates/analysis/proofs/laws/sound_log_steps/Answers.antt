use Rattle.analysis.proofs.Taking.{steps_on, taken_in_order, taken_begin}
use Rattle.analysis.proofs.laws.sound_log_steps.Goals as goal

pub returns-clause-steps : goal.returns-clause-steps
returns-clause-steps c = steps_on

pub returns-clause-order : goal.returns-clause-order
returns-clause-order c = taken_in_order

pub returns-clause-begun : goal.returns-clause-begun
returns-clause-begun c = taken_begin
