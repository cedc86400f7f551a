use Rattle.ring_machine.proofs.Works as works
use Rattle.ring_machine.proofs.laws.ring_ops_compose.Goals as goal

pub returns-clause-works : goal.returns-clause-works
returns-clause-works c = works.ring_ops_compose

pub returns-clause-first : goal.returns-clause-first
returns-clause-first c = works.first_is_first
