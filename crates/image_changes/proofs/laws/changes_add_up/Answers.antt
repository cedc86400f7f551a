use Rattle.image_changes.proofs.Sequence.{changes_add_up}
use Rattle.image_changes.proofs.laws.changes_add_up.Goals as goal

pub returns : goal.returns
returns c = changes_add_up
