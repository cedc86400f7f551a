use Rattle.archive_base.proofs.Opened.{are_open}
use Rattle.archive_base.proofs.laws.heard_are_open.Goals as goal

pub returns : goal.returns
returns c = λ p kept sound has claimed. are_open p sound kept has claimed
