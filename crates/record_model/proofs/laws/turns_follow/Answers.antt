use Rattle.record_model.proofs.RunLaws.{turns_follow}
use Rattle.record_model.proofs.laws.turns_follow.Goals as goal

pub returns : goal.returns
returns c = turns_follow
