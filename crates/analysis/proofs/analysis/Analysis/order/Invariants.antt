use Rattle.analysis.proofs.Maps.{OrderSoFar}
use Rattle.analysis.proofs.analysis.Analysis.order.Given as goal

abbrev pub invariant-loop-txn : goal.invariant-loop-txn
invariant-loop-txn l = OrderSoFar l.self.table.transactions.entries l.txn-iterator l.order
