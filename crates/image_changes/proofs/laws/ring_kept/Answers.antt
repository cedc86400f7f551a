use Rattle.image_changes.proofs.Sequence.{ring_kept}
use Rattle.image_changes.proofs.laws.ring_kept.Goals as goal

pub returns : goal.returns
returns c = ring_kept
