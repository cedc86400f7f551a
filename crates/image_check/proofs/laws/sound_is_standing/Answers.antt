use Rattle.image_check.proofs.Standing.{sound_stands, standing_is_sound}
use Rattle.image_check.proofs.laws.sound_is_standing.Goals as goal

pub returns-clause-stands : goal.returns-clause-stands
returns-clause-stands c = sound_stands

pub returns-clause-sound : goal.returns-clause-sound
returns-clause-sound c = standing_is_sound
