use Rattle.record_model.proofs.RunLaws.{each_line_has_a_turn}
use Rattle.record_model.proofs.laws.each_line_has_a_turn.Goals as goal

pub returns : goal.returns
returns c = each_line_has_a_turn
