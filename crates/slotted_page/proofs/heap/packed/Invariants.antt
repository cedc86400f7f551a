use Rattle.slotted_page.proofs.Carried.{Carried}
use Rattle.slotted_page.proofs.heap.packed.Given as goal

abbrev pub invariant-loop-slot : goal.invariant-loop-slot
invariant-loop-slot l = Carried l.octets l.packed l.slot
