use Rattle.image_meaning.proofs.Stages.{sound_staged, means_staged}
use Rattle.image_meaning.proofs.laws.staged.Goals as goal

pub returns-clause-sound : goal.returns-clause-sound
returns-clause-sound c = sound_staged

pub returns-clause-means : goal.returns-clause-means
returns-clause-means c = means_staged
