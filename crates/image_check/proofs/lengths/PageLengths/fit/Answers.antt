use Rattle.image_check.proofs.Names.{◌≡◌, ◌%◌, rules, slice_index_or, arith}
use Rattle.image_check.proofs.FilledOnes.{sum_step, fits_by}
use Rattle.image_check.proofs.lengths.PageLengths.fit.Goals as goal

pub loop-slot-preserved : goal.loop-slot-preserved
loop-slot-preserved c = record {
  sum = λ page. sum_step c.args.self.now.lengths page c.loop-slot.slot c.loop-slot.total c.loop-slot-test.true (c.loop-slot.invariant.sum page);
  few = search rules;
}

pub returns : goal.returns
returns c page =
    let end : c.loop-slot.slot ≡ 32 = omega (arith, c.loop-slot-test.false, c.loop-slot.auto.slot-end) in
    fits_by (λ number. slice_index_or c.args.self.now.lengths (number % 32) 0) page c.loop-slot.slot c.loop-slot.total end (c.loop-slot.invariant.sum page)
