use Rattle.std.proofs.Common.{sym, ◌∙◌, arith}
use Rattle.std.proofs.lemmas.Fmt.{decimal_injective}
use Rattle.command_line.proofs.words.number_within.Goals as goal

pub returns-then-number-least-clause-none : goal.returns-then-number-least-clause-none
returns-then-number-least-clause-none c n from to is =
    let found = c.in-Some.ensures.number in
    let few = found.0 in
    let bound = c.requires in
    let same = decimal_injective c.in-Some.number n (omega (arith, few)) (omega (arith, to, bound)) (sym found.1 ∙ is) in
    absurd (omega (arith, c.if-number-least.true, same, from))

pub returns-then-number-most-clause-none : goal.returns-then-number-most-clause-none
returns-then-number-most-clause-none c n from to is =
    let found = c.in-Some.ensures.number in
    let few = found.0 in
    let bound = c.requires in
    let same = decimal_injective c.in-Some.number n (omega (arith, few)) (omega (arith, to, bound)) (sym found.1 ∙ is) in
    absurd (omega (arith, c.if-number-most.true, same, to))
