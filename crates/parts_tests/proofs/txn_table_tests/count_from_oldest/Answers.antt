use Rattle.txn_table.proofs.Counting.{all_from_least}
use Rattle.parts_tests.proofs.txn_table_tests.count_from_oldest.Goals as goal

pub count_from-requires : goal.count_from-requires
count_from-requires c = record { born = all_from_least c.args.table.now c.in-Some.first (c.in-Some.ensures) }
