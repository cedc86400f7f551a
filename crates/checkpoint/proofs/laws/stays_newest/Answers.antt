use Rattle.checkpoint.proofs.Standing.{appended_is}
use Rattle.checkpoint.proofs.laws.stays_newest.Goals as goal

pub returns-clause-appended : goal.returns-clause-appended
returns-clause-appended c = appended_is
