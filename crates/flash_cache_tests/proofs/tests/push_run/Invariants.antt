use Rattle.flash_cache.specs.Representation.{Invariant}
use Rattle.flash_cache_tests.proofs.tests.push_run.Given as goal

abbrev pub invariant-loop-page : goal.invariant-loop-page
invariant-loop-page g l = Invariant l.cache (g.S.Site.state l.site)
