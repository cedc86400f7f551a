use Rattle.slotted_page.proofs.Steps.{overwrites_at}
use Rattle.slotted_page.proofs.heap.overwrite.Goals as goal

pub returns : goal.returns
returns c = overwrites_at _ _ c.args.slot _ _ c.requires.sound c.requires.slot c.requires.as_long c.offset_of-offset.ensures.number c.write.ensures
