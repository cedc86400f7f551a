use Rattle.redo_undo.proofs.Names.{◌%◌, sym, arith, option_copied, after_of}
use Rattle.redo_undo.proofs.Rooms.{fits_as}
use Rattle.redo_undo.proofs.changing.change_front.Goals as goal

pub change-requires-clause-fits : goal.change-requires-clause-fits
change-requires-clause-fits c =
    let number = c.requires.on_page.0 in
    let own = c.requires.on_page.1 in
    let below = c.slot_of-slot.ensures.below c.requires.form in
    let at = c.slot_of-slot.ensures.number number own in
    fits_as c.args.pages.now (number % 32) c.slot_of-slot.result (after_of c.args.rec.now) (option_copied c.after_of-after.result) (omega (arith, below, at.1)) (sym c.after_of-after.ensures.after) (c.requires.room number own)
