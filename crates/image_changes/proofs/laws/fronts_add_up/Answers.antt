use Rattle.image_changes.proofs.Adding.{fronts_add_up}
use Rattle.image_changes.proofs.laws.fronts_add_up.Goals as goal

pub returns : goal.returns
returns c = fronts_add_up
