use Rattle.engine.proofs.Names.{arith}
use Rattle.engine.proofs.RingCounts.{count_nothing}
use Rattle.engine.proofs.laws.rest_counts_nothing.Goals as goal

pub returns : goal.returns
returns c reply engine site s fits going quiet = count_nothing reply engine site s s fits going quiet (omega arith)
