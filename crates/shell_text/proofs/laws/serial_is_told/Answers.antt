use Rattle.shell_text.proofs.Serial.{serial_is_told}
use Rattle.shell_text.proofs.laws.serial_is_told.Goals as goal

pub returns : goal.returns
returns c = serial_is_told
