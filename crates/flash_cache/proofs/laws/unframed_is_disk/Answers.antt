use Rattle.flash_cache.proofs.PushedOutcome.{unframed_is_disk}
use Rattle.flash_cache.proofs.laws.unframed_is_disk.Goals as goal

pub returns : goal.returns
returns c = unframed_is_disk
