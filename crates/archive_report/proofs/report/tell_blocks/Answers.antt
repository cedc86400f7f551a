use Rattle.archive_report.proofs.Names.{◌≡◌, ◌≤◌, ◌<◌, ◌∙◌, refl, arith, oldest_in, units_in, goes_nowhere, goes_in_sequence, stays_honest}
use Rattle.archive_report.proofs.LiveBlocks.{finds_later, log_ring_later}
use Rattle.archive_report.proofs.UpTo.{none_told, one_more, stops, told_to_end}
use Rattle.archive_report.proofs.report.tell_blocks.Goals as goal

pub loop-number-init : goal.loop-number-init
loop-number-init g c =
    let old = g.S.Site.state c.args.site.now in
    record {
      ring = c.requires.ring;
      preserves = goes_nowhere old;
      faults = refl;
      told = λ honest finds. none_told c.args.ring.now c.args.from old;
    }

pub loop-number-preserved : goal.loop-number-preserved
loop-number-preserved g c =
    let old = g.S.Site.state c.args.site.now in
    let mid = g.S.Site.state c.loop-number.site in
    let new = g.S.Site.state c.tell_block.new.site in
    let ring = c.args.ring.now in
    let number = c.loop-number.number in
    record {
      ring = log_ring_later ring mid new c.tell_block.ensures.goes.preserves c.loop-number.invariant.ring;
      preserves = goes_in_sequence old mid new c.loop-number.invariant.preserves c.tell_block.ensures.goes.preserves;
      faults = c.in-Ok.ensures.goes.faults ∙ c.loop-number.invariant.faults;
      told = λ honest finds.
          let so_far = c.loop-number.invariant.told honest finds in
          let lives : oldest_in ring.shape (units_in ring.shape old) ≤ number = omega (arith, c.requires.lives, c.loop-number.auto.number, finds.hi) in
          let below : number < (units_in ring.shape old).hi = omega (arith, c.loop-number-test.true, c.hi-number-end.ensures, finds.hi) in
          one_more ring c.args.from number old mid new so_far lives below c.in-Ok.field-0
          (c.in-Ok.ensures.tells (stays_honest old mid c.loop-number.invariant.preserves honest) (finds_later ring old mid so_far.told.same.image finds));
    }

pub returns-in-Err-clause-tells : goal.returns-in-Err-clause-tells
returns-in-Err-clause-tells g c honest finds =
    let old = g.S.Site.state c.args.site.now in
    let mid = g.S.Site.state c.loop-number.site in
    let new = g.S.Site.state c.tell_block.new.site in
    let ring = c.args.ring.now in
    let number = c.loop-number.number in
    let so_far = c.loop-number.invariant.told honest finds in
    let lives : oldest_in ring.shape (units_in ring.shape old) ≤ number = omega (arith, c.requires.lives, c.loop-number.auto.number, finds.hi) in
    let below : number < (units_in ring.shape old).hi = omega (arith, c.loop-number-test.true, c.hi-number-end.ensures, finds.hi) in
    stops ring c.args.from number old mid new so_far lives below c.in-Err.halt
    (c.in-Err.ensures.tells (stays_honest old mid c.loop-number.invariant.preserves honest) (finds_later ring old mid so_far.told.same.image finds))

pub returns-in-Err-clause-found : goal.returns-in-Err-clause-found
returns-in-Err-clause-found g c honest finds =
    let old = g.S.Site.state c.args.site.now in
    let mid = g.S.Site.state c.loop-number.site in
    let so_far = c.loop-number.invariant.told honest finds in
    c.in-Err.ensures.found (stays_honest old mid c.loop-number.invariant.preserves honest) (finds_later c.args.ring.now old mid so_far.told.same.image finds)

pub returns-clause-tells : goal.returns-clause-tells
returns-clause-tells g c honest finds =
    let old = g.S.Site.state c.args.site.now in
    let now = g.S.Site.state c.loop-number.site in
    let ring = c.args.ring.now in
    let end : c.loop-number.number ≡ (units_in ring.shape old).hi = omega (arith, c.loop-number-test.false, c.loop-number.auto.number-end, c.requires.below, c.hi-number-end.ensures, finds.hi) in
    told_to_end tt ring c.args.from c.loop-number.number old now (c.loop-number.invariant.told honest finds) end
