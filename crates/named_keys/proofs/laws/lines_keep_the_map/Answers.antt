use Rattle.named_keys.proofs.MapLaws as laws
use Rattle.named_keys.proofs.laws.lines_keep_the_map.Goals as goal

pub returns : goal.returns
returns c = laws.lines_keep_the_map c.lines_are_probes.ensures c.names_are_a_map.ensures
