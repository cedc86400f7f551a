use Rattle.std.proofs.Common.{◌≡◌}
use Rattle.policy_sim_tests.proofs.tests.drawn_counts.Given as goal

abbrev pub invariant-loop : goal.invariant-loop
invariant-loop l = l.sim.counts.touches ≡ l.counter
