use Rattle.record_model.proofs.Citing.{refl}
use Rattle.record_model.proofs.rows.rows_of_marks.Goals as goal

pub returns-clause-back_to_a_mark : goal.returns-clause-back_to_a_mark
returns-clause-back_to_a_mark c = refl

pub returns-clause-back_makes_records : goal.returns-clause-back_makes_records
returns-clause-back_makes_records c = refl

pub returns-clause-mark_counts_what_stands : goal.returns-clause-mark_counts_what_stands
returns-clause-mark_counts_what_stands c = refl

pub returns-clause-back_to_a_number : goal.returns-clause-back_to_a_number
returns-clause-back_to_a_number c = refl
