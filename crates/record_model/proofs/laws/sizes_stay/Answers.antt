use Rattle.record_model.proofs.StepLaws.{sizes_stay}
use Rattle.record_model.proofs.laws.sizes_stay.Goals as goal

pub returns : goal.returns
returns c = sizes_stay
