use Rattle.record_model.proofs.SessionLaws.{sessions_stay_sound}
use Rattle.record_model.proofs.laws.sessions_stay_sound.Goals as goal

pub returns : goal.returns
returns c = sessions_stay_sound
