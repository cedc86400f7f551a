use Rattle.named_keys.proofs.MapLaws as laws
use Rattle.named_keys.proofs.laws.lines_are_probes.Goals as goal

pub returns : goal.returns
returns c = laws.lines_are_probes c.calls_are_durable.ensures
