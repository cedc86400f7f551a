use Rattle.name_table.proofs.TidyFinds.{finds_stay}
use Rattle.name_table.proofs.tidy_laws.finds_stay.Goals as goal

pub returns : goal.returns
returns c = finds_stay
