use Rattle.image_meaning.proofs.Leaving.{commit_stands}
use Rattle.image_meaning.proofs.moment_laws.calls_with_commit.Goals as goal

pub returns : goal.returns
returns c = commit_stands
