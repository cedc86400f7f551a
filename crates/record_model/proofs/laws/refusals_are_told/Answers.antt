use Rattle.record_model.proofs.RefusalLaws.{refusals_are_told}
use Rattle.record_model.proofs.laws.refusals_are_told.Goals as goal

pub returns : goal.returns
returns c = refusals_are_told
