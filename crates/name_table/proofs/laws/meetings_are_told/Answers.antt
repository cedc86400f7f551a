use Rattle.name_table.proofs.MetLaws.{met_is_told, find_missed_told, remove_missed_told}
use Rattle.name_table.proofs.laws.meetings_are_told.Goals as goal

pub returns-clause-met : goal.returns-clause-met
returns-clause-met c = met_is_told

pub returns-clause-find : goal.returns-clause-find
returns-clause-find c = find_missed_told

pub returns-clause-remove : goal.returns-clause-remove
returns-clause-remove c = remove_missed_told
