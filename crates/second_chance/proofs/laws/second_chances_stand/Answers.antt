use Rattle.second_chance.proofs.Chances.{chances_stand_in, chances_few, chances_are_not_staged}
use Rattle.second_chance.proofs.laws.second_chances_stand.Goals as goal

pub returns-clause-stand : goal.returns-clause-stand
returns-clause-stand c = chances_stand_in

pub returns-clause-few : goal.returns-clause-few
returns-clause-few c = chances_few

pub returns-clause-not_staged : goal.returns-clause-not_staged
returns-clause-not_staged c = chances_are_not_staged
