use Rattle.sealed_ring.proofs.Names.{HaveNumbers}
use Rattle.sealed_ring.proofs.ring.have_numbers.Given as goal

abbrev pub invariant-loop-place : goal.invariant-loop-place
invariant-loop-place l = HaveNumbers l.shape l.n l.place l.slots
