use Rattle.log_records.proofs.Records.{spelling_is_one}
use Rattle.log_records.proofs.laws.one_form.Goals as goal

pub returns : goal.returns
returns c = spelling_is_one
