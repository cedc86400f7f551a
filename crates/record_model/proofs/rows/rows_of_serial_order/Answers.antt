use Rattle.record_model.proofs.Citing.{refl}
use Rattle.record_model.proofs.rows.rows_of_serial_order.Goals as goal

pub returns-clause-second_transaction : goal.returns-clause-second_transaction
returns-clause-second_transaction c = refl

pub returns-clause-answered_among_others : goal.returns-clause-answered_among_others
returns-clause-answered_among_others c = refl

pub returns-clause-answered_alone : goal.returns-clause-answered_alone
returns-clause-answered_alone c = refl

pub returns-clause-three_sessions : goal.returns-clause-three_sessions
returns-clause-three_sessions c = refl

pub returns-clause-scanning_alone : goal.returns-clause-scanning_alone
returns-clause-scanning_alone c = (refl, refl, refl)

pub returns-clause-writing_alone : goal.returns-clause-writing_alone
returns-clause-writing_alone c = (refl, refl, refl)

pub returns-clause-reading_alone : goal.returns-clause-reading_alone
returns-clause-reading_alone c = (refl, refl, refl)

pub returns-clause-taking_back_alone : goal.returns-clause-taking_back_alone
returns-clause-taking_back_alone c = (refl, refl, refl)
