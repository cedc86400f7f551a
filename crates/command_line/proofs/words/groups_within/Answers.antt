use Rattle.std.proofs.Common.{◌%◌, ℕ, sym, ◌∙◌, ap, arith}
use Rattle.std.proofs.lemmas.Fmt.{decimal_injective}
use Rattle.command_line.proofs.words.groups_within.Goals as goal

pub returns-then-groups-ne0-clause-none : goal.returns-then-groups-ne0-clause-none
returns-then-groups-ne0-clause-none c n least most fours is =
    let found = c.in-Some.ensures.number in
    let few = found.1 in
    let same = decimal_injective c.in-Some.groups n (omega (arith, few)) (omega (arith, most)) (sym found.2 ∙ is) in
    absurd (c.if-groups-ne0.true (ap (λ (n : ℕ). n % 4) same ∙ fours))
