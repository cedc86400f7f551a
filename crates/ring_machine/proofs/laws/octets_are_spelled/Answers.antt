use Rattle.ring_machine.proofs.Spelled.{octets_spelled}
use Rattle.ring_machine.proofs.laws.octets_are_spelled.Goals as goal

pub returns : goal.returns
returns c = octets_spelled
