use Rattle.analysis.proofs.Names.{None, refl, sym, ap, ◌∙◌, none-some, open_of, listed}
use Rattle.analysis.proofs.Maps.{found_at, opened, changes, not_foreign}
use Rattle.analysis.proofs.Tables.{closes}
use Rattle.analysis.proofs.table.Table.close.Goals as goal

pub returns-in_default-clause-absent : goal.returns-in_default-clause-absent
returns-in_default-clause-absent c =
    (λ is. found_at c.args.self.now.transactions.entries c.args.txn ∙ ap (opened c.args.txn) (sym c.remove.ensures.value ∙ c.in_default.is), λ none. refl)

pub returns-clause-closes : goal.returns-clause-closes
returns-clause-closes c =
    let es = c.args.self.now.transactions.entries in
    let x = open_of (c.args.txn, c.in-Some.field-0) in
    closes (listed c.args.self.now) _ c.args.txn x c.requires (found_at es c.args.txn ∙ ap (opened c.args.txn) (sym c.remove.ensures.value ∙ c.in-Some.is))
    (changes es c.remove.new.self.entries c.args.txn None c.remove.ensures.ordered c.remove.ensures.updates.1 c.remove.ensures.updates.2)

pub returns-clause-absent : goal.returns-clause-absent
returns-clause-absent c =
    (λ is. absurd (not_foreign is), λ none. absurd (none-some _ (sym none ∙ found_at c.args.self.now.transactions.entries c.args.txn ∙ ap (opened c.args.txn) (sym c.remove.ensures.value ∙ c.in-Some.is))))
