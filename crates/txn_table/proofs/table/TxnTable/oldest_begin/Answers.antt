use Rattle.txn_table.proofs.Names.{◌∙◌, ap, sym, slice_get}
use Rattle.txn_table.proofs.Places.{first_begins}
use Rattle.txn_table.proofs.table.TxnTable.oldest_begin.Goals as goal

pub returns : goal.returns
returns c = rw (← c.self.view_is) (first_begins c.self.inside.entries.items c.in_ok-first.first.now c.self.invariant
    (ap (λ xs. slice_get xs 0) (sym c.deref.ensures.0) ∙ sym c.in_ok-first.ensures.value))
