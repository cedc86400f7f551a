use Rattle.image_meaning.proofs.Leaving.{front_stands_for, front_stands}
use Rattle.image_meaning.proofs.moment_laws.calls_without_commit.Goals as goal

pub returns-clause-whole : goal.returns-clause-whole
returns-clause-whole c = front_stands_for

pub returns-clause-under : goal.returns-clause-under
returns-clause-under c = front_stands
