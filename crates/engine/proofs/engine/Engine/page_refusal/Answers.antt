use Rattle.engine.proofs.Names.{◌∙◌, ◌/◌, ◌%◌, sym, ap, arith, rules}
use Rattle.footprints.specs.Longest.{need}
use Rattle.engine.proofs.PageRooms.{passes, passes_empty, refuses}
use Rattle.engine.proofs.engine.Engine.page_refusal.Goals as goal

pub returns-then-is_empty : goal.returns-then-is_empty
returns-then-is_empty c s site fits =
    let going = c.requires.going.1 in
    sym (passes_empty c.args.self.now site s fits going.table going.footprints.eight c.args.number c.requires.number going.store.both.pages_going.own c.requires.front (c.is_empty.ensures.0 c.if-is_empty.true) c.args.after.now (c.requires.fits.0 c.if-fits.true))

pub returns-then-need-le-PAGE_ROOM : goal.returns-then-need-le-PAGE_ROOM
returns-then-need-le-PAGE_ROOM c s site fits =
    let going = c.requires.going.1 in
    let few = c.if-need-le-PAGE_ROOM.true in
    sym (passes c.args.self.now site s fits going.table going.footprints.eight c.args.number c.requires.number going.store.both.pages_going.own c.requires.front c.lengths.result c.lengths.ensures c.need-need.result c.args.after.now
    (c.need-need.ensures ∙ ap (need c.args.self.now.footprints (c.args.number / 32) c.lengths.result (c.args.number % 32)) c.length_of.ensures) (omega (arith, few)))

pub returns : goal.returns
returns c s site fits =
    let going = c.requires.going.1 in
    let more = c.if-need-le-PAGE_ROOM.false in
    sym (refuses c.args.self.now site s fits going.table going.footprints.eight c.args.number c.requires.number going.store.both.pages_going.own c.requires.front c.lengths.result c.lengths.ensures c.need-need.result c.args.after.now (search rules)
    (c.need-need.ensures ∙ ap (need c.args.self.now.footprints (c.args.number / 32) c.lengths.result (c.args.number % 32)) c.length_of.ensures) (omega (arith, more)))
