use Rattle.log_replay.proofs.Ledgers.{begins}
use Rattle.log_replay.proofs.ledger.Ledger.begin.Goals as goal

pub returns : goal.returns
returns c = λ pages next s popped later stands. begins pages c.args.lsn next s popped c.args.self.now c.begin.new.self later stands (c.in-Ok.ensures.active) c.in-Ok.ensures.writers
