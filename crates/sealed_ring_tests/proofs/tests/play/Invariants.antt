use Rattle.mem_site.specs.MemState.{state_of}
use Rattle.sealed_ring.specs.Ready.{IsUsable}
use Rattle.sealed_ring_tests.proofs.tests.play.Given as goal

abbrev pub invariant-loop-row : goal.invariant-loop-row
invariant-loop-row l = IsUsable l.ring (state_of l.site)
