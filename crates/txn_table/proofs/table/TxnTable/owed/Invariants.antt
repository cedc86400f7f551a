use Rattle.txn_table.proofs.Names.{◌≡◌, take, owed}
use Rattle.txn_table.proofs.table.TxnTable.owed.Given as goal

abbrev pub invariant-loop-entry : goal.invariant-loop-entry
invariant-loop-entry l = l.owed ≡ owed (take l.entry-index l.entry-items)
