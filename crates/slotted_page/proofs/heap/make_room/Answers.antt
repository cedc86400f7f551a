use Rattle.std.proofs.Common.{◌∙◌, ap, arith, None}
use Rattle.slotted_page.specs.Layout.{total_length}
use Rattle.slotted_page.proofs.Slots.{slots_of-Sets, same_content}
use Rattle.slotted_page.proofs.heap.make_room.Goals as goal

pub compact-requires-clause-room : goal.compact-requires-clause-room
compact-requires-clause-room c = omega (arith, ap total_length (slots_of-Sets _ _ c.args.slot None c.requires.slot c.clear.ensures), c.requires.fits)

pub returns-clause-others : goal.returns-clause-others
returns-clause-others c = λ k below other. same_content _ _ k c.compact.ensures.slots below ∙ c.clear.ensures.others k below other

pub returns-clause-room : goal.returns-clause-room
returns-clause-room c = omega (arith, c.compact.ensures.used, ap total_length (slots_of-Sets _ _ c.args.slot None c.requires.slot c.clear.ensures), c.requires.fits)
