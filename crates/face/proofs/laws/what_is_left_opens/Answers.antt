use Rattle.face.proofs.Lives.{law_of_lives}
use Rattle.face.proofs.laws.what_is_left_opens.Goals as goal

pub returns : goal.returns
returns c = law_of_lives
