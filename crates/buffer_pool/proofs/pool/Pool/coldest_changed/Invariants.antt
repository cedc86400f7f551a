use Rattle.buffer_pool.proofs.Names.{length}
use Rattle.buffer_pool.proofs.Walks.{IsWalked}
use Rattle.buffer_pool.proofs.pool.Pool.coldest_changed.Given as goal

abbrev pub invariant-loop-page : goal.invariant-loop-page
invariant-loop-page l = IsWalked l.most l.self.frames l.warmer l.pages.items

abbrev pub decreases-loop-page : goal.decreases-loop-page
decreases-loop-page l = length l.warmer
