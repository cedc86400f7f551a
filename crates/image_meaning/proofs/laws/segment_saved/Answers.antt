use Rattle.image_meaning.proofs.SegmentLaws.{segment_is_sound, segment_means}
use Rattle.image_meaning.proofs.laws.segment_saved.Goals as goal

pub returns-clause-sound : goal.returns-clause-sound
returns-clause-sound c = segment_is_sound

pub returns-clause-means : goal.returns-clause-means
returns-clause-means c = segment_means
