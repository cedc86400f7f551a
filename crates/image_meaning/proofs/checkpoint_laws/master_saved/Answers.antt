use Rattle.image_meaning.proofs.Saves.{saved_octets, logical_image_saved, sound_saved, means_saved, orderly_saved}
use Rattle.image_meaning.proofs.Beside.{rings_saved}
use Rattle.image_meaning.proofs.checkpoint_laws.master_saved.Goals as goal

pub returns-clause-octets : goal.returns-clause-octets
returns-clause-octets c = saved_octets

pub returns-clause-rings : goal.returns-clause-rings
returns-clause-rings c = rings_saved

pub returns-clause-logical_image : goal.returns-clause-logical_image
returns-clause-logical_image c = logical_image_saved

pub returns-clause-sound : goal.returns-clause-sound
returns-clause-sound c = sound_saved

pub returns-clause-means : goal.returns-clause-means
returns-clause-means c = means_saved

pub returns-clause-orderly : goal.returns-clause-orderly
returns-clause-orderly c = orderly_saved
