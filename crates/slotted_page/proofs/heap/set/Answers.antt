use Rattle.std.proofs.Common.{◌∙◌}
use Rattle.slotted_page.proofs.Slots.{slots_of-Sets}
use Rattle.slotted_page.proofs.heap.set.Goals as goal

pub returns-clause-slots : goal.returns-clause-slots
returns-clause-slots c = c.set_lsn.ensures.slots ∙ slots_of-Sets _ _ c.args.slot _ c.requires.slot c.put_content.ensures
