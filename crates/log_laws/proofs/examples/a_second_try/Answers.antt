use Rattle.log_laws.proofs.Rows.{of_the_second_try}
use Rattle.log_laws.proofs.examples.a_second_try.Goals as goal

pub returns : goal.returns
returns c = of_the_second_try
