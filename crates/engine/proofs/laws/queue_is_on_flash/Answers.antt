use Rattle.engine.proofs.Queues.{on_flash}
use Rattle.engine.proofs.laws.queue_is_on_flash.Goals as goal

pub returns : goal.returns
returns c = on_flash
