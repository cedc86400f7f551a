use Rattle.log_judge.proofs.Names.{◌≡◌, ◌+◌, map, drop, length}
use Rattle.std.proofs.Common.{◌↔◌}
use Rattle.log_judge.proofs.LeftOnes.{pair_of}
use Rattle.log_judge.proofs.unfinished.LeftTxns.are_those.Given as goal

abbrev pub invariant-loop-txn : goal.invariant-loop-txn
invariant-loop-txn l = record {
  same : (map pair_of l.txn-iterator ≡ drop l.place l.master.active) ↔ (map pair_of l.self.left.entries ≡ l.master.active);
  len : length l.txn-iterator + l.place ≡ length l.master.active;
}
