use Rattle.log_archive.proofs.Following.{join}
use Rattle.log_archive.proofs.laws.archives_join.Goals as goal

pub returns : goal.returns
returns c = join
