use Rattle.txn_table.proofs.Names.{arith, Active}
use Rattle.txn_table.proofs.Places.{owed_more}
use Rattle.txn_table.proofs.table.TxnTable.owed.Goals as goal

blank : Active
blank = record { session = 0; begin = 0; last = 0; born = 0; writes = 0; mark = 0 }

pub overflow_add-owed : goal.overflow_add-owed
unfolding blank
overflow_add-owed c = omega (
  arith,
  owed_more c.as_slice-entry-items.result.now c.self.inside.entries.items c.loop-entry.entry-index c.loop-entry.owed blank
      c.as_slice-entry-items.ensures.value c.self.invariant c.loop-entry-test.true c.loop-entry.invariant,
)

pub overflow_add-owed-in-loop-entry : goal.overflow_add-owed-in-loop-entry
unfolding blank
overflow_add-owed-in-loop-entry c = omega (
  arith,
  owed_more c.as_slice-entry-items.result.now c.self.inside.entries.items c.loop-entry.entry-index c.loop-entry.owed blank
      c.as_slice-entry-items.ensures.value c.self.invariant c.loop-entry-test.true c.loop-entry.invariant,
)
