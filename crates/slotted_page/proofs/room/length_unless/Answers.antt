use Rattle.std.proofs.Common.{◌∙◌, ap, sym, None, get_or-set_other}
use Rattle.slotted_page.specs.Layout.{slots_of, content_length}
use Rattle.slotted_page.proofs.Slots.{get_or-slots_of}
use Rattle.slotted_page.proofs.Lengths.{content_length_of}
use Rattle.slotted_page.proofs.room.length_unless.Goals as goal

pub returns-clause-number : goal.returns-clause-number
returns-clause-number c =
    c.length_of.ensures.number
    ∙ sym (content_length_of c.args.octets.now c.args.slot c.requires.sound.size (c.requires.sound.entries c.args.slot c.requires.slot))
    ∙ sym (ap content_length (get_or-set_other (slots_of c.args.octets.now) c.args.out c.args.slot None None c.if-slot-out.false ∙ get_or-slots_of c.args.octets.now c.args.slot None c.requires.slot))
