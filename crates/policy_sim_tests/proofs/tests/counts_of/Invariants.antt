use Rattle.std.proofs.Common.{◌≡◌}
use Rattle.policy_sim_tests.proofs.tests.counts_of.Given as goal

abbrev pub invariant-loop-page : goal.invariant-loop-page
invariant-loop-page l = l.sim.counts.touches ≡ l.page-index
