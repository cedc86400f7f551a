use Rattle.record_model.proofs.Citing.{refl}
use Rattle.record_model.proofs.rows.rows_of_touches.Goals as goal

pub returns-clause-touches_of_two_readers : goal.returns-clause-touches_of_two_readers
returns-clause-touches_of_two_readers c = refl

pub returns-clause-touches_of_an_abort : goal.returns-clause-touches_of_an_abort
returns-clause-touches_of_an_abort c = refl

pub returns-clause-touches_of_a_back : goal.returns-clause-touches_of_a_back
returns-clause-touches_of_a_back c = refl

pub returns-clause-touches_of_a_full_page : goal.returns-clause-touches_of_a_full_page
returns-clause-touches_of_a_full_page c = refl
