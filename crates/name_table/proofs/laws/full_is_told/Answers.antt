use Rattle.name_table.proofs.FirstLaws.{full_is_told}
use Rattle.name_table.proofs.laws.full_is_told.Goals as goal

pub returns : goal.returns
returns c = full_is_told
