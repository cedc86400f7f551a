use Rattle.log_archive.proofs.Following.{accepted}
use Rattle.log_archive.proofs.laws.followers_are_accepted.Goals as goal

pub returns : goal.returns
returns c = accepted
