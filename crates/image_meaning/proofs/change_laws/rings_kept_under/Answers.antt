use Rattle.image_meaning.proofs.Beside.{rings_kept}
use Rattle.image_meaning.proofs.change_laws.rings_kept_under.Goals as goal

pub returns : goal.returns
returns c = rings_kept
