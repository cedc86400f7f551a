use Rattle.image_meaning.proofs.Leaving.{push_stands}
use Rattle.image_meaning.proofs.moment_laws.whole_push.Goals as goal

pub returns : goal.returns
returns c = push_stands
