use Rattle.name_table.proofs.FirstLaws.{strange_is_told}
use Rattle.name_table.proofs.laws.strange_is_told.Goals as goal

pub returns : goal.returns
returns c = strange_is_told
