use Rattle.record_model.proofs.SerialGets.{gets_are_serial}
use Rattle.record_model.proofs.laws.gets_are_serial.Goals as goal

pub returns : goal.returns
returns c = gets_are_serial
