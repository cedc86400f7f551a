use Rattle.log_laws.proofs.Rows.{of_the_loser}
use Rattle.log_laws.proofs.examples.a_loser.Goals as goal

pub returns : goal.returns
returns c = of_the_loser
