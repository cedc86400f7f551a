use Rattle.txn_table.proofs.Names.{◌≡◌}
use Rattle.txn_table.proofs.Counting.{counted_to}
use Rattle.txn_table.proofs.table.TxnTable.count_from.Given as goal

abbrev pub invariant-loop-place : goal.invariant-loop-place
invariant-loop-place l = l.self-inside.entries.items ≡ counted_to l.first l.place l.initial.self-inside.entries.items
