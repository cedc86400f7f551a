use Rattle.workload.proofs.Cutting.{scripts_are_cut}
use Rattle.workload.proofs.laws.scripts_are_cut.Goals as goal

pub returns : goal.returns
returns c = scripts_are_cut
