use Rattle.std.proofs.Common.{arith}
use Rattle.std_lemmas.proofs.Lists.{part_first}
use Rattle.trace_report.proofs.trace.Trace.next_octet.Goals as goal

pub returns-in-Ok-true-clause-octet : goal.returns-in-Ok-true-clause-octet
returns-in-Ok-true-clause-octet g c honest ended = grind (arith, part_first)
