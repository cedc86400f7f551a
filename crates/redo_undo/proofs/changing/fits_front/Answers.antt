use Rattle.redo_undo.proofs.Names.{◌≡◌, ◌%◌, ℕ, Some, sym, arith, option_copied, number_of, after_of}
use Rattle.redo_undo.proofs.Rooms.{fits_as, fits_next, fits_redone}
use Rattle.redo_undo.proofs.changing.fits_front.Goals as goal

-- the record's number says the slot
slot_is : (c : goal.After-fits) (number : ℕ) → number_of c.args.rec.now ≡ Some number → number % 32 ≡ c.slot_of-slot.result
slot_is c number own =
    let below = c.slot_of-slot.ensures.below c.requires.form in
    let at = c.slot_of-slot.ensures.number number own in
    omega (arith, below, at.1)

pub returns-clause-room : goal.returns-clause-room
returns-clause-room c =
    let pages = c.args.pages.now in
    let number = c.requires.on_page.0 in
    let own = c.requires.on_page.1 in
    let after = c.after_of-after.ensures.after in (
      (λ yes. λ n at. fits_as pages c.slot_of-slot.result (n % 32) (option_copied c.after_of-after.result) (after_of c.args.rec.now) (sym (slot_is c n at)) after (c.fits.ensures.0 yes)),
      (λ room. c.fits.ensures.1 (fits_as pages (number % 32) c.slot_of-slot.result (after_of c.args.rec.now) (option_copied c.after_of-after.result) (slot_is c number own) (sym after) (room number own))),
    )

pub returns-clause-grows : goal.returns-clause-grows
returns-clause-grows c log site newest records history lsn h may =
    (returns-clause-room c).1 (fits_next log c.args.pages.now site newest records history c.requires.store c.requires.there h (record { lsn = lsn; rec = c.args.rec.now }) may c.requires.on_page)

pub returns-clause-redone : goal.returns-clause-redone
returns-clause-redone c o log site front rest lsn h is later =
    (returns-clause-room c).1 (fits_redone o log c.args.pages.now site front rest (record { lsn = lsn; rec = c.args.rec.now }) c.requires.store c.requires.there h is c.requires.on_page later)
