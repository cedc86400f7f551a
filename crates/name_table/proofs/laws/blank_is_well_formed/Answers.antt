use Rattle.name_table.proofs.NameLaws.{blank_is_well_formed}
use Rattle.name_table.proofs.laws.blank_is_well_formed.Goals as goal

pub returns : goal.returns
returns c = blank_is_well_formed
