use Rattle.analysis.proofs.Names.{◌≡◌, ◌++◌, map, none_remains, open_of, listed}
use Rattle.std.proofs.Common.{filter}
use Rattle.analysis.proofs.analysis.Analysis.undone.Given as goal

abbrev pub invariant-loop-txn : goal.invariant-loop-txn
invariant-loop-txn l = l.txns.items ++ map (λ x. x.txn) (filter none_remains (map open_of l.txn-iterator)) ≡ map (λ x. x.txn) (filter none_remains (listed l.self.table))
