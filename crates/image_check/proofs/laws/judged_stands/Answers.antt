use Rattle.image_check.proofs.Standing.{judged_stands, standing_is_judged}
use Rattle.image_check.proofs.laws.judged_stands.Goals as goal

pub returns-clause-stands : goal.returns-clause-stands
returns-clause-stands c = judged_stands

pub returns-clause-judged : goal.returns-clause-judged
returns-clause-judged c = standing_is_judged
