use Rattle.analysis.proofs.Names.{◌∷◌, refl, sym, ap, ◌∙◌, none-some, on_ok_weaker, option_copied_mut, Open}
use Rattle.analysis.proofs.Maps.{found_at, opened, becomes_written, same_written, err_maps, memory_alone}
use Rattle.analysis.proofs.table.Table.update.Goals as goal

pub returns-in_default-clause-absent : goal.returns-in_default-clause-absent
returns-in_default-clause-absent c =
    (λ is. found_at c.args.self.now.transactions.entries c.args.txn ∙ ap (opened c.args.txn) (sym c.get_mut.ensures.value ∙ ap option_copied_mut c.in_default.is), λ none. refl)

pub returns-clause-becomes : goal.returns-clause-becomes
returns-clause-becomes c =
    on_ok_weaker c.update.result
    (becomes_written c.args.self.now.transactions (c.get_mut.follows.lender c.update.new.self) c.args.txn c.in-Some.transaction.now c.update.new.self (λ (x : Open). record x { last = c.args.lsn; updates = c.args.lsn ∷ x.updates }) c.requires
    (sym c.get_mut.ensures.value ∙ ap option_copied_mut c.in-Some.is) (c.get_mut.follows.holds c.update.new.self)) (c.update.ensures.ok c.args.txn)

pub returns-clause-err : goal.returns-clause-err
returns-clause-err c =
    err_maps c.update.result _ _
    (same_written c.args.self.now.transactions (c.get_mut.follows.lender c.update.new.self) c.args.txn c.in-Some.transaction.now c.update.new.self c.requires
    (sym c.get_mut.ensures.value ∙ ap option_copied_mut c.in-Some.is) (c.get_mut.follows.holds c.update.new.self)) (c.update.ensures.err c.args.txn)

pub returns-clause-absent : goal.returns-clause-absent
returns-clause-absent c =
    (λ is. absurd (memory_alone c.update.result c.update.ensures.stops is), λ none. absurd (none-some _ (sym none ∙ found_at c.args.self.now.transactions.entries c.args.txn ∙ ap (opened c.args.txn) (sym c.get_mut.ensures.value ∙ ap option_copied_mut c.in-Some.is))))
