use Rattle.txn_table.proofs.Places.{ascending}
use Rattle.txn_table.proofs.table.TxnTable.at.Goals as goal

pub returns-clause-ascending : goal.returns-clause-ascending
returns-clause-ascending c = rw (← c.self.view_is) (ascending _ c.self.invariant)
