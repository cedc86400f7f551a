use Rattle.sealed_ring.proofs.Units.{live_count}
use Rattle.sealed_ring.proofs.laws.appends.Goals as goal

pub returns-clause-count : goal.returns-clause-count
returns-clause-count c = live_count
