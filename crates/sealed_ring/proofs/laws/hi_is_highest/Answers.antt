use Rattle.sealed_ring.proofs.Units.{hi_is_highest}
use Rattle.sealed_ring.proofs.laws.hi_is_highest.Goals as goal

pub returns : goal.returns
returns c = hi_is_highest
