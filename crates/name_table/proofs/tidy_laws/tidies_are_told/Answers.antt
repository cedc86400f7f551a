use Rattle.name_table.proofs.TidyRuns.{tidies_are_told}
use Rattle.name_table.proofs.tidy_laws.tidies_are_told.Goals as goal

pub returns : goal.returns
returns c = tidies_are_told
