use Rattle.mem_site.specs.MemState.{state_of}
use Rattle.engine.specs.Invariant.{Invariant}
use Rattle.engine_tests.proofs.tests.play.Given as goal

abbrev pub invariant-loop-place : goal.invariant-loop-place
invariant-loop-place l = Invariant l.engine (state_of l.site)
