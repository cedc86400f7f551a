use Rattle.face.proofs.Meanings.{blank_stands}
use Rattle.face.proofs.laws.blank_stands.Goals as goal

pub returns : goal.returns
returns c = blank_stands c.blank_stands.ensures
