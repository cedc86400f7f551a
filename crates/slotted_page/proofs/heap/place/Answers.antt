use Rattle.std.proofs.Common.{◌∙◌, arith}
use Rattle.slotted_page.proofs.Steps.{places, sets}
use Rattle.slotted_page.proofs.heap.place.Goals as goal

pub returns-clause-sets : goal.returns-clause-sets
returns-clause-sets c =
    sets _ _ c.args.slot _ c.requires.sound
    (places _ _ _ _ c.args.slot _ _ c.args.value.now c.requires.sound c.requires.slot c.requires.short
    (omega (arith, c.used_of.ensures.number)) (omega (arith, c.used_of.ensures.number, c.requires.room)) (omega (arith, c.used_of.ensures.number, c.requires.room))
    c.write.ensures c.put_used.ensures c.put_entry.ensures).0

pub returns-clause-used : goal.returns-clause-used
returns-clause-used c =
    (places _ _ _ _ c.args.slot _ _ c.args.value.now c.requires.sound c.requires.slot c.requires.short
    (omega (arith, c.used_of.ensures.number)) (omega (arith, c.used_of.ensures.number, c.requires.room)) (omega (arith, c.used_of.ensures.number, c.requires.room))
    c.write.ensures c.put_used.ensures c.put_entry.ensures).1 ∙ omega (arith, c.used_of.ensures.number)
