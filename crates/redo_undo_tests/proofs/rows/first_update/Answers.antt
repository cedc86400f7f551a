use Rattle.std.proofs.Common.{refl}
use Rattle.redo_undo_tests.proofs.rows.first_update.Goals as goal

pub returns-clause-on : goal.returns-clause-on
returns-clause-on c = (5, refl, refl)
