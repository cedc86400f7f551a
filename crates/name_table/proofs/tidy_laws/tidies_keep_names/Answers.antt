use Rattle.name_table.proofs.TidyLaws.{tidies_keep_names}
use Rattle.name_table.proofs.tidy_laws.tidies_keep_names.Goals as goal

pub returns : goal.returns
returns c = tidies_keep_names
