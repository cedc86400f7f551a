use Rattle.face.proofs.Lives.{law_of_loads}
use Rattle.face.proofs.laws.what_a_load_leaves_opens.Goals as goal

pub returns : goal.returns
returns c = law_of_loads
