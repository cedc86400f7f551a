use Rattle.name_table.proofs.Names.{refl}
use Rattle.name_table.proofs.rows.rows_of_buckets.Goals as goal

pub returns-clause-homes : goal.returns-clause-homes
returns-clause-homes c = (refl, refl, refl, refl, refl)

pub returns-clause-forms : goal.returns-clause-forms
returns-clause-forms c = (refl, refl, refl)
