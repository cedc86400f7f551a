use Rattle.std.proofs.Common.{arith}
use Rattle.trace_report.proofs.Spelled.{too_great}
use Rattle.trace_report.proofs.touch_line.read_touch.Goals as goal

pub returns-then-page-gt-PAGE_MAX-clause-none : goal.returns-then-page-gt-PAGE_MAX-clause-none
returns-then-page-gt-PAGE_MAX-clause-none c =
    let number = c.in-Some-read_decimal.ensures.number in
    let small = number.0 in
    too_great _ _ _ _ c.in-Some.ensures.parts number.1 c.if-page-gt-PAGE_MAX.true (omega (arith, small))
