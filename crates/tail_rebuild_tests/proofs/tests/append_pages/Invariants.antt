use Rattle.mem_site.specs.MemState.{state_of}
use Rattle.tail_rebuild_tests.specs.Trying.{MayTry}
use Rattle.tail_rebuild_tests.proofs.tests.append_pages.Given as goal

abbrev pub invariant-loop-page : goal.invariant-loop-page
invariant-loop-page l = MayTry l.groups (state_of l.site)
