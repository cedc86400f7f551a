use Rattle.record_model.proofs.SerialOrder.{serial_order}
use Rattle.record_model.proofs.laws.serial_order.Goals as goal

pub returns : goal.returns
returns c = serial_order
