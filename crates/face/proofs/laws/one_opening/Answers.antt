use Rattle.face.proofs.Meanings.{one_opening}
use Rattle.face.proofs.laws.one_opening.Goals as goal

pub returns : goal.returns
returns c = one_opening c.one_master_stands.ensures.meaning
