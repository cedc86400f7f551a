use Rattle.record_model.proofs.Citing.{refl}
use Rattle.record_model.proofs.rows.rows_of_the_budget.Goals as goal

pub returns-clause-checkpoint_makes_room : goal.returns-clause-checkpoint_makes_room
returns-clause-checkpoint_makes_room c = refl

pub returns-clause-hundred_sets : goal.returns-clause-hundred_sets
returns-clause-hundred_sets c = refl

pub returns-clause-eight_sessions : goal.returns-clause-eight_sessions
returns-clause-eight_sessions c = refl

pub returns-clause-room_from_the_start : goal.returns-clause-room_from_the_start
returns-clause-room_from_the_start c = refl

pub returns-clause-checkpoint_on_demand : goal.returns-clause-checkpoint_on_demand
returns-clause-checkpoint_on_demand c = refl
