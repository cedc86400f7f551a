use Rattle.std.proofs.Common.{refl}
use Rattle.slotted_page.proofs.Blank.{blank}
use Rattle.slotted_page.proofs.heap.blank.Goals as goal

pub returns-clause-blank : goal.returns-clause-blank
returns-clause-blank c = blank 4096 refl
