use Rattle.buffer_pool.proofs.Names.{length}
use Rattle.buffer_pool.proofs.Listed.{IsTold}
use Rattle.buffer_pool.proofs.index.Index.coldest.Given as goal

abbrev pub invariant-loop-mark : goal.invariant-loop-mark
invariant-loop-mark l = IsTold l.most l.self.listed.entries l.warmer l.marks.items

abbrev pub decreases-loop-mark : goal.decreases-loop-mark
decreases-loop-mark l = length l.warmer
