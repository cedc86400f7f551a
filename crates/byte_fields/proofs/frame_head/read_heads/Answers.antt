use Rattle.std.proofs.Common.{◌*◌, arith, subst, sym, get_or, take}
use Rattle.std.proofs.lemmas.List.{take_more_set, length-take-le}
use Rattle.std_lemmas.proofs.Results.{on_err}
use Rattle.byte_fields.specs.FrameHeads.{AreHeads, blank}
use Rattle.byte_fields.proofs.HeadLists.{heads_more, head_at}
use Rattle.byte_fields.proofs.frame_head.read_heads.Goals as goal

pub returns-in_err-heads-clause-bad : goal.returns-in_err-heads-clause-bad
returns-in_err-heads-clause-bad c =
    on_err c.from_residual.result _ (λ other size are.
    c.in_err-heads.ensures.bad (get_or other c.loop-place.place blank) (head_at c.args.bytes.now other c.loop-place.place are (omega (arith, size))))

pub loop-place-preserved : goal.loop-place-preserved
loop-place-preserved c =
    let place = c.loop-place.place in
    let less = c.loop-place-test.true in
    subst (AreHeads c.args.bytes.now) (sym (take_more_set c.loop-place.heads place c.in_ok-heads.field-0 (omega arith)))
    (heads_more c.args.bytes.now (take place c.loop-place.heads) c.in_ok-heads.field-0 (16 * place) c.loop-place.invariant c.in_ok-heads.ensures.found
    (omega (arith, length-take-le place c.loop-place.heads (omega arith))))
