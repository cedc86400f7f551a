use Rattle.engine.proofs.Names.{◌∙◌, sym, true≢false}
use Rattle.engine.proofs.PageRooms.{fits_front}
use Rattle.engine.proofs.engine.Engine.test_page.Goals as goal

pub returns-then-not-fits-clause-answers : goal.returns-then-not-fits-clause-answers
returns-then-not-fits-clause-answers c s site fits =
    let going = c.requires.going.1 in
    let has = sym (c.page_refusal.ensures s site fits) ∙ c.in_default.is in
    absurd (true≢false (sym (c.fits-fits.ensures.room.1 (fits_front c.args.self.now site s fits going.table going.footprints.eight c.args.number c.requires.number going.store.both.pages_going.own c.requires.front c.args.after.now has)) ∙ c.if-not-fits.true))
