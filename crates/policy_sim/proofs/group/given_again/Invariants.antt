use Rattle.policy_sim.proofs.Names.{◌≡◌, ◌≤◌, take, length, given_again}
use Rattle.policy_sim.proofs.group.given_again.Given as goal

abbrev pub invariant-loop-place : goal.invariant-loop-place
invariant-loop-place l = record {
  frames : l.frames.items ≡ given_again l.front (take l.place l.chances);
  few : length l.frames.items ≤ l.place;
}
