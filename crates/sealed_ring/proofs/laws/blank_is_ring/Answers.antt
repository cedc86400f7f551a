use Rattle.sealed_ring.proofs.Examples.{blank_is_ring}
use Rattle.sealed_ring.proofs.laws.blank_is_ring.Goals as goal

pub returns : goal.returns
returns c = blank_is_ring
