use Rattle.policy_sim.proofs.Names.{◌≡◌, ◌≤◌, length}
use Rattle.policy_sim.proofs.Looked.{IsLooked}
use Rattle.policy_sim.proofs.pool.Pool.candidates.Given as goal

abbrev pub invariant-loop-entry : goal.invariant-loop-entry
invariant-loop-entry l = record {
  looked : IsLooked l.queue l.self.listed.entries l.coldest l.into l.count;
  few : l.count ≤ 7;
  seven : length l.into ≡ 7;
}

abbrev pub decreases-loop-entry : goal.decreases-loop-entry
decreases-loop-entry l = length l.coldest
