use Rattle.log_records.proofs.Blocks.{written_is_spelled, one_spelled}
use Rattle.log_records.proofs.laws.read_again.Goals as goal

pub returns-clause-spelled : goal.returns-clause-spelled
returns-clause-spelled c = written_is_spelled

pub returns-clause-only : goal.returns-clause-only
returns-clause-only c = one_spelled
