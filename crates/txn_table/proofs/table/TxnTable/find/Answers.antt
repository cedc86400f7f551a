use Rattle.txn_table.proofs.Names.{rules, ◌==◌, ◌∙◌, YieldsList-from_slice, find_from_yields_List}
use Rattle.txn_table.proofs.table.TxnTable.find.Goals as goal

pub returns-clause-entry : goal.returns-clause-entry
returns-clause-entry c = rw (← c.self.view_is) (c.copied.ensures ∙ find_from_yields_List (λ entry. entry.session == c.args.session) _ _ c.find.result c.find.ensures.ran
    (YieldsList-from_slice c.self.inside.entries.items (c.iter.ensures.rest ∙ c.deref.ensures.0)) (λ x b q k. search rules))
