use Rattle.image_meaning.proofs.Appends.{pushed_is_sound, pushed_means}
use Rattle.image_meaning.proofs.laws.pushed.Goals as goal

pub returns-clause-sound : goal.returns-clause-sound
returns-clause-sound c = pushed_is_sound

pub returns-clause-means : goal.returns-clause-means
returns-clause-means c = pushed_means
