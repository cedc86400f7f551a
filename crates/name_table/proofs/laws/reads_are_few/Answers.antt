use Rattle.name_table.proofs.FirstLaws.{reads_are_few}
use Rattle.name_table.proofs.laws.reads_are_few.Goals as goal

pub returns : goal.returns
returns c = reads_are_few
