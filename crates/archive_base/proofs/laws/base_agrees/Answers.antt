use Rattle.archive_base.proofs.Agreeing.{base_agrees, base_shows}
use Rattle.archive_base.proofs.laws.base_agrees.Goals as goal

pub returns-clause-agrees : goal.returns-clause-agrees
returns-clause-agrees c = base_agrees

pub returns-clause-shows : goal.returns-clause-shows
returns-clause-shows c = base_shows
