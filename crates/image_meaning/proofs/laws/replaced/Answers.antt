use Rattle.image_meaning.proofs.Replacing.{replaced_is_sound, replaced_means, version_replaces}
use Rattle.image_meaning.proofs.laws.replaced.Goals as goal

pub returns-clause-sound : goal.returns-clause-sound
returns-clause-sound c = replaced_is_sound

pub returns-clause-means : goal.returns-clause-means
returns-clause-means c = replaced_means

pub returns-clause-itself : goal.returns-clause-itself
returns-clause-itself c = version_replaces
