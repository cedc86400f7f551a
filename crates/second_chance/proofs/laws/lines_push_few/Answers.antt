use Rattle.second_chance.proofs.LineGroups.{lines_push_few, lines_counted}
use Rattle.second_chance.proofs.laws.lines_push_few.Goals as goal

pub returns-clause-lines : goal.returns-clause-lines
returns-clause-lines c = lines_push_few

pub returns-clause-counted : goal.returns-clause-counted
returns-clause-counted c = lines_counted
