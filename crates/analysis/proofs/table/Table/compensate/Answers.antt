use Rattle.analysis.proofs.Names.{refl, sym, ap, ◌∙◌, drop, none-some, option_copied_mut, Open}
use Rattle.analysis.proofs.Maps.{found_at, opened, becomes_written, not_foreign}
use Rattle.analysis.proofs.table.Table.compensate.Goals as goal

pub returns-in_default-clause-absent : goal.returns-in_default-clause-absent
returns-in_default-clause-absent c =
    (λ is. found_at c.args.self.now.transactions.entries c.args.txn ∙ ap (opened c.args.txn) (sym c.get_mut.ensures.value ∙ ap option_copied_mut c.in_default.is), λ none. refl)

pub returns-clause-becomes : goal.returns-clause-becomes
returns-clause-becomes c =
    becomes_written c.args.self.now.transactions (c.get_mut.follows.lender c.compensate.new.self) c.args.txn c.in-Some.transaction.now c.compensate.new.self (λ (x : Open). record x { last = c.args.lsn; updates = drop 1 x.updates }) c.requires
    (sym c.get_mut.ensures.value ∙ ap option_copied_mut c.in-Some.is) (c.get_mut.follows.holds c.compensate.new.self) (c.compensate.ensures c.args.txn)

pub returns-clause-absent : goal.returns-clause-absent
returns-clause-absent c =
    (λ is. absurd (not_foreign is), λ none. absurd (none-some _ (sym none ∙ found_at c.args.self.now.transactions.entries c.args.txn ∙ ap (opened c.args.txn) (sym c.get_mut.ensures.value ∙ ap option_copied_mut c.in-Some.is))))
