use Rattle.face.proofs.Openings.{opening_is_sound, sound_opens}
use Rattle.face.proofs.laws.sound_opens.Goals as goal

pub returns-clause-opens : goal.returns-clause-opens
returns-clause-opens c = sound_opens c.sound_is_standing.ensures.stands

pub returns-clause-sound : goal.returns-clause-sound
returns-clause-sound c = opening_is_sound c.sound_is_standing.ensures.sound
