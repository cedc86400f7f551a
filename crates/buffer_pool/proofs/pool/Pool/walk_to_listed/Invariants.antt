use Rattle.buffer_pool.proofs.Names.{length}
use Rattle.buffer_pool.proofs.Listed.{IsSought}
use Rattle.buffer_pool.proofs.pool.Pool.walk_to_listed.Given as goal

abbrev pub invariant-loop-page : goal.invariant-loop-page
invariant-loop-page l = IsSought l.most l.self l.warmer l.marks.items

abbrev pub decreases-loop-page : goal.decreases-loop-page
decreases-loop-page l = length l.warmer
