use Rattle.name_table.proofs.NameLaws.{names_are_a_map}
use Rattle.name_table.proofs.laws.names_are_a_map.Goals as goal

pub returns : goal.returns
returns c = names_are_a_map
