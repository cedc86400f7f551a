use Rattle.image_changes.proofs.AppendLaws.{append_makes, append_done}
use Rattle.image_changes.proofs.laws.append_makes.Goals as goal

pub returns-clause-moments : goal.returns-clause-moments
returns-clause-moments c = append_makes

pub returns-clause-done : goal.returns-clause-done
returns-clause-done c = append_done
