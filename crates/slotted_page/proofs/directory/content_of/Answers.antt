use Rattle.std.proofs.Common.{◌-◌, arith, sym, ap, take, drop}
use Rattle.slotted_page.proofs.Slots.{content_some}
use Rattle.slotted_page.proofs.directory.content_of.Goals as goal

pub returns : goal.returns
returns c = sym (content_some c.args.octets.now c.args.slot c.offset_of-offset.result (c.code_of-code.result - 1) _
    (sym c.offset_of-offset.ensures.number) (omega (arith, c.if-code-eq0.false, c.code_of-code.ensures.number))
    (ap (λ n. take n (drop c.offset_of-offset.result c.args.octets.now)) (omega (arith, c.if-code-eq0.false))))
