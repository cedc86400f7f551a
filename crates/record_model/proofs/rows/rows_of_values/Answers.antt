use Rattle.record_model.proofs.Citing.{refl}
use Rattle.record_model.proofs.rows.rows_of_values.Goals as goal

pub returns-clause-longest_value : goal.returns-clause-longest_value
returns-clause-longest_value c = refl

pub returns-clause-last_record : goal.returns-clause-last_record
returns-clause-last_record c = refl
