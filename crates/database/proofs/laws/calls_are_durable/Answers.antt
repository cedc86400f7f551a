use Rattle.database.proofs.Durable as durable
use Rattle.database.proofs.laws.calls_are_durable.Goals as goal

pub returns : goal.returns
returns c = durable.calls_are_durable
