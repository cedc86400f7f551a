use Rattle.std.proofs.Common.{◌≡◌, ◌+◌, ◌-◌, ◌≤◌, length}
use Rattle.workload.specs.Scripts.{stops_from}
use Rattle.workload.proofs.lives.next_stop.Given as goal

abbrev pub invariant-loop-at : goal.invariant-loop-at
invariant-loop-at l = record {
  same : stops_from l.script l.from ≡ stops_from l.script l.at;
  behind : l.from ≤ l.at;
  inside : l.at ≤ length l.script + 1;
}

abbrev pub decreases-loop-at : goal.decreases-loop-at
decreases-loop-at l = length l.script + 1 - l.at
