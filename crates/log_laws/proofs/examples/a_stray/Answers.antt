use Rattle.log_laws.proofs.Rows.{of_the_stray}
use Rattle.log_laws.proofs.examples.a_stray.Goals as goal

pub returns : goal.returns
returns c = of_the_stray
