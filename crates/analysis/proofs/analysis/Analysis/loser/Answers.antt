use Rattle.analysis.proofs.Names.{Some, IsSome, refl, sym, subst, ap, ◌∙◌, option_copied, loser_of, IsLoser, open_of, listed}
use Rattle.std.specs.Prelude.{option_map}
use Rattle.analysis.proofs.Maps.{found_at, opened, loser_is}
use Rattle.analysis.proofs.Steps.{is_loser}
use Rattle.analysis.proofs.analysis.Analysis.loser.Goals as goal

pub returns-in_default-clause-loser : goal.returns-in_default-clause-loser
returns-in_default-clause-loser c =
    sym (ap (option_map loser_of) (found_at c.args.self.now.table.transactions.entries c.args.txn ∙ ap (opened c.args.txn) (sym c.get.ensures.value ∙ ap option_copied c.in_default.is)))

pub returns-clause-loser : goal.returns-clause-loser
returns-clause-loser c =
    ap Some (loser_is c.args.txn c.in-Some.transaction.now c.len.result c.len.ensures)
    ∙ sym (ap (option_map loser_of) (found_at c.args.self.now.table.transactions.entries c.args.txn ∙ ap (opened c.args.txn) (sym c.get.ensures.value ∙ ap option_copied c.in-Some.is)))

pub returns-clause-of_records : goal.returns-clause-of_records
returns-clause-of_records c m records is =
    subst (IsLoser m.active records) (sym (loser_is c.args.txn c.in-Some.transaction.now c.len.result c.len.ensures))
    (is_loser m.active records (listed c.args.self.now.table) c.args.txn (open_of (c.args.txn, c.in-Some.transaction.now)) is.table
    (found_at c.args.self.now.table.transactions.entries c.args.txn ∙ ap (opened c.args.txn) (sym c.get.ensures.value ∙ ap option_copied c.in-Some.is)))

pub returns-clause-active : goal.returns-clause-active
returns-clause-active c = subst IsSome (sym (found_at c.args.self.now.table.transactions.entries c.args.txn ∙ ap (opened c.args.txn) (sym c.get.ensures.value ∙ ap option_copied c.in-Some.is))) refl
