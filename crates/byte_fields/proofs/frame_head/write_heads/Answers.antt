use Rattle.std.proofs.Common.{List, subst}
use Rattle.std.specs.List.{AllByRecursion}
use Rattle.std.proofs.lemmas.List.{take_all}
use Rattle.byte_fields.specs.declared.frame_head.FrameHead.{FrameHead}
use Rattle.byte_fields.specs.FrameHeads.{spelling_of_all, FitsFields}
use Rattle.byte_fields.specs.Writes.{Writes}
use Rattle.byte_fields.proofs.HeadLists.{writes_more, fit_more, written_heads}
use Rattle.byte_fields.proofs.frame_head.write_heads.Goals as goal

pub loop-place-preserved : goal.loop-place-preserved
loop-place-preserved c = (
  writes_more c.args.bytes.now c.loop-place.bytes c.write_head.new.bytes c.args.heads.now c.loop-place.place c.loop-place-test.true c.loop-place.invariant.0 c.write_head.ensures.written,
  fit_more c.args.heads.now c.loop-place.place c.loop-place-test.true c.loop-place.invariant.1 c.write_head.ensures.spelled.fits_fields,
)

pub returns-clause-spelled : goal.returns-clause-spelled
returns-clause-spelled c =
    let all = take_all c.loop-place.place c.args.heads.now c.loop-place-test.false in
    written_heads c.args.bytes.now c.loop-place.bytes c.args.heads.now
    (subst (λ (heads : List FrameHead). Writes c.args.bytes.now c.loop-place.bytes 0 (spelling_of_all heads)) all c.loop-place.invariant.0)
    c.requires.form (subst (AllByRecursion FitsFields) all c.loop-place.invariant.1)
