use Rattle.std.proofs.Common.{Some, None, ap, ◌∙◌}
use Rattle.workload.proofs.Words.{number_is}
use Rattle.workload.proofs.lives.read_number.Goals as goal

pub returns-in-Some : goal.returns-in-Some
returns-in-Some c = ap Some c.from.ensures ∙ number_is (Some c.in-Some.number) c.args.word.now c.in-Some.ensures.number c.in-Some.ensures.none

pub returns-in-None : goal.returns-in-None
returns-in-None c = number_is None c.args.word.now c.in-None.ensures.number c.in-None.ensures.none
