use Rattle.buffer_pool.proofs.Names.{◌≡◌, ◌++◌, map, length, mark_of}
use Rattle.buffer_pool.proofs.Walks.{told}
use Rattle.buffer_pool.proofs.pool.Pool.marks.Given as goal

abbrev pub invariant-loop-page : goal.invariant-loop-page
invariant-loop-page l = map mark_of l.self.frames ≡ l.marks.items ++ map told l.colder

abbrev pub decreases-loop-page : goal.decreases-loop-page
decreases-loop-page l = length l.colder
