use Rattle.redo_undo.proofs.Names.{◌+◌, ◌*◌, ap, subst, arith, number_of, HasForm}
use Rattle.redo_undo.proofs.redo_pass.page_of.Goals as goal

pub returns-in-Update-clause-on : goal.returns-in-Update-clause-on
returns-in-Update-clause-on c = let form = subst HasForm c.in-Update.is c.requires.form in let small = form.0 in (32 * c.in-Update.page + c.in-Update.slot, ap number_of c.in-Update.is, omega (arith, small))

pub returns-in-Clr-clause-on : goal.returns-in-Clr-clause-on
returns-in-Clr-clause-on c = let form = subst HasForm c.in-Clr.is c.requires.form in let small = form.0 in (32 * c.in-Clr.page + c.in-Clr.slot, ap number_of c.in-Clr.is, omega (arith, small))
