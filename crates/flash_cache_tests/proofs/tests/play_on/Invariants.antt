use Rattle.mem_site.specs.MemState.{state_of}
use Rattle.flash_cache.specs.Representation.{Invariant}
use Rattle.flash_cache_tests.proofs.tests.play_on.Given as goal

abbrev pub invariant-loop-row : goal.invariant-loop-row
invariant-loop-row l = Invariant l.cache (state_of l.site)
