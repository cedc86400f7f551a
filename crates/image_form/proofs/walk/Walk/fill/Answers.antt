use Rattle.image_form.proofs.Names.{refl, ap, arith, Err, unread, Log}
use Rattle.image_form.proofs.Counts.{log_few}
use Rattle.image_form.proofs.Walks.{nothing_left, filled, block_there}
use Rattle.image_form.proofs.walk.Walk.fill.Goals as goal

pub returns-then-self-sealed_end-clause-none : goal.returns-then-self-sealed_end-clause-none
returns-then-self-sealed_end-clause-none g c left finds stands says =
    nothing_left c.args.self.now c.args.log.now (g.S.Site.state c.args.site.now).image left stands c.if-self.false (omega (arith, finds.hi, c.sealed_end.ensures, c.if-self-sealed_end.true))

pub returns-in-Err-Foreign-clause-none : goal.returns-in-Err-Foreign-clause-none
returns-in-Err-Foreign-clause-none g c left finds stands says =
    let there = block_there c.args.log.now c.args.self.now (g.S.Site.state c.args.site.now).image left stands (omega (arith, finds.hi, c.sealed_end.ensures, c.if-self-sealed_end.false)) in
    absurd (c.in-Err-Foreign.ensures.foreign (ap Err c.in-Err-Foreign.field-0-is) finds there.0 there.1)

pub returns-clause-more : goal.returns-clause-more
returns-clause-more g c left finds stands says =
    let used = c.in-Ok.ensures.used in
    filled c.args.log.now c.args.self.now _ (g.S.Site.state c.args.site.now).image left stands c.if-self.false (omega (arith, finds.hi, c.sealed_end.ensures, c.if-self-sealed_end.false)) refl refl refl
    (c.in-Ok.ensures.block finds) used.0 used.1 used.2

pub returns-in-Err-Foreign-clause-ends : goal.returns-in-Err-Foreign-clause-ends
returns-in-Err-Foreign-clause-ends g c = log_few c.read_block.result Log 1 (unread c.args.log.now c.args.self.now) _ _ refl (omega (arith, c.sealed_end.ensures, c.if-self-sealed_end.false)) c.read_block.ensures.reads

pub returns-in-Err-clause-ends : goal.returns-in-Err-clause-ends
returns-in-Err-clause-ends g c = log_few c.read_block.result Log 1 (unread c.args.log.now c.args.self.now) _ _ refl (omega (arith, c.sealed_end.ensures, c.if-self-sealed_end.false)) c.read_block.ensures.reads

pub returns-clause-ends : goal.returns-clause-ends
returns-clause-ends g c = log_few c.read_block.result Log 1 (unread c.args.log.now c.args.self.now) _ _ refl (omega (arith, c.sealed_end.ensures, c.if-self-sealed_end.false)) c.read_block.ensures.reads
