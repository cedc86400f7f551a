use Rattle.analysis.proofs.Unfinished.{one_table, active_is_unfinished, table_of_unfinished, owed_of_unfinished}
use Rattle.analysis.proofs.laws.table_of_records.Goals as goal

pub returns-clause-one : goal.returns-clause-one
returns-clause-one c = one_table

pub returns-clause-active : goal.returns-clause-active
returns-clause-active c = active_is_unfinished

pub returns-clause-unfinished : goal.returns-clause-unfinished
returns-clause-unfinished c = table_of_unfinished

pub returns-clause-owed : goal.returns-clause-owed
returns-clause-owed c = owed_of_unfinished
