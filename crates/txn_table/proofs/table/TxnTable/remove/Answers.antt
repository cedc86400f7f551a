use Rattle.txn_table.proofs.Names.{◌≡◌, ◌==◌, ◌∙◌, ap, remove, position_or_len}
use Rattle.txn_table.proofs.Changes.{without, remove-without, IsTable-without, removes}
use Rattle.txn_table.proofs.table.TxnTable.remove.Goals as goal

-- what is left
rest : (c : goal.After-remove) → c.remove.new.self.items ≡ without c.self.inside.entries.items c.args.session
rest c =
    c.remove.ensures.items
    ∙ ap (remove c.self.inside.entries.items) (c.place_of-place.ensures.place ∙ ap (position_or_len (λ entry. entry.session == c.args.session)) c.deref.ensures.0)
    ∙ remove-without c.self.inside.entries.items c.args.session

pub invariant_of-self : goal.invariant_of-self
invariant_of-self c = rw (rest c) (IsTable-without c.self.inside.entries.items c.args.session c.self.invariant)

pub returns-clause-entry : goal.returns-clause-entry
returns-clause-entry c = rw (rest c, ← c.self.view_is) (removes c.self.inside.entries.items c.args.session c.self.invariant)
