use Rattle.mem_site.specs.MemState.{state_of}
use Rattle.page_store_tests.specs.Trying.{AreGoing}
use Rattle.page_store_tests.proofs.tests.play.Given as goal

abbrev pub invariant-loop-place : goal.invariant-loop-place
invariant-loop-place l = AreGoing l.pages l.log (state_of l.site)
