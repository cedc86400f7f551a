use Rattle.image_meaning.proofs.Seals.{sealed_image_is_sound, sealed_without_commit, sealed_with_commit}
use Rattle.image_meaning.proofs.laws.sealed.Goals as goal

pub returns-clause-sound : goal.returns-clause-sound
returns-clause-sound c = sealed_image_is_sound

pub returns-clause-without : goal.returns-clause-without
returns-clause-without c = sealed_without_commit

pub returns-clause-with : goal.returns-clause-with
returns-clause-with c = sealed_with_commit
