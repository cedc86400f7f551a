use Rattle.image_meaning.proofs.Blanks.{blank_stands}
use Rattle.image_meaning.proofs.laws.blank_stands.Goals as goal

pub returns : goal.returns
returns c = blank_stands
