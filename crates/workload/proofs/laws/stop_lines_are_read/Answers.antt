use Rattle.workload.proofs.Words.{stop_lines_are_read}
use Rattle.workload.proofs.laws.stop_lines_are_read.Goals as goal

pub returns : goal.returns
returns c = stop_lines_are_read
