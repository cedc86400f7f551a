use Rattle.std.proofs.Common.{◌≡◌, ◌+◌, ◌-◌, ◌≤◌, length}
use Rattle.std.specs.Prelude.{slice_get}
use Rattle.workload.specs.Scripts.{lives_of}
use Rattle.workload.proofs.Stops.{life_from}
use Rattle.workload.proofs.lives.life.Given as goal

abbrev pub invariant-loop-number : goal.invariant-loop-number
invariant-loop-number l = record {
  rest : slice_get (lives_of l.script) l.place ≡ life_from l.script l.start (31 - l.number) (l.place - l.number);
  behind : l.number ≤ l.place;
  inside : l.start ≤ length l.script + 1;
}
