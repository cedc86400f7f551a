use Rattle.record_model.proofs.MarkLaws.{back_to_the_mark}
use Rattle.record_model.proofs.laws.back_to_the_mark.Goals as goal

pub returns : goal.returns
returns c = back_to_the_mark
