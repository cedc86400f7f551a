use Rattle.std.proofs.Common.{◌∙◌, ap, set, None, arith}
use Rattle.std.proofs.lemmas.List.{take_all, length-set}
use Rattle.slotted_page.specs.Layout.{slots_of, total_length}
use Rattle.slotted_page.proofs.Slots.{length-slots_of}
use Rattle.slotted_page.proofs.room.length_of_others.Goals as goal

pub returns : goal.returns
returns c =
    let slots = set (slots_of c.args.octets.now) c.args.slot None in
    c.loop-other.invariant.0
    ∙ ap total_length (take_all c.loop-other.other slots (omega (arith, c.loop-other-test.false, length-set (slots_of c.args.octets.now) c.args.slot None, length-slots_of c.args.octets.now)))
