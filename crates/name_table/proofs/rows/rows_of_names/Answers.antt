use Rattle.name_table.proofs.Names.{refl}
use Rattle.name_table.proofs.rows.rows_of_names.Goals as goal

pub returns-clause-one_name : goal.returns-clause-one_name
returns-clause-one_name c = refl

pub returns-clause-seventeen_names : goal.returns-clause-seventeen_names
returns-clause-seventeen_names c = refl

pub returns-clause-strange_home : goal.returns-clause-strange_home
returns-clause-strange_home c = refl
