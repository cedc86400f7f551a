use Rattle.record_model.proofs.Citing.{refl}
use Rattle.record_model.proofs.rows.rows_of_ranges.Goals as goal

pub returns-clause-acknowledged_none : goal.returns-clause-acknowledged_none
returns-clause-acknowledged_none c = refl

pub returns-clause-asked_for_one : goal.returns-clause-asked_for_one
returns-clause-asked_for_one c = refl

pub returns-clause-acknowledged_one : goal.returns-clause-acknowledged_one
returns-clause-acknowledged_one c = refl

pub returns-clause-asked_for_two : goal.returns-clause-asked_for_two
returns-clause-asked_for_two c = refl

pub returns-clause-asked_for_none : goal.returns-clause-asked_for_none
returns-clause-asked_for_none c = refl

pub returns-clause-asked_for_all : goal.returns-clause-asked_for_all
returns-clause-asked_for_all c = refl
