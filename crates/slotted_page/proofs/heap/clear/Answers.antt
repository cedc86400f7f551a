use Rattle.slotted_page.proofs.Steps.{clears, sets}
use Rattle.slotted_page.proofs.heap.clear.Goals as goal

pub returns : goal.returns
returns c = sets _ _ c.args.slot _ c.requires.sound (clears _ _ c.args.slot c.requires.sound c.put_entry.ensures)
