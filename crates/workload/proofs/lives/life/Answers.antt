use Rattle.std.proofs.Common.{◌+◌, ◌-◌, sym, ◌∙◌, arith}
use Rattle.std.specs.Prelude.{◌==◌}
use Rattle.std.proofs.lemmas.Bool.{eqb-true, eqb-false}
use Rattle.workload.proofs.Stops.{last_is, last_by_count, life_here, life_behind}
use Rattle.workload.proofs.lives.life.Goals as goal

pub returns-in_default-clause-life : goal.returns-in_default-clause-life
returns-in_default-clause-life c =
    let script = c.args.script.now in
    let place = c.args.place in
    let number = c.loop-number.number in
    let behind = c.loop-number.invariant.behind in
    c.last_life.ensures
    ∙ sym (c.loop-number.invariant.rest ∙ last_is script c.loop-number.start (31 - number) (place - number) (number == place) c.in_default.ensures.none
    (λ is. let same = eqb-true number place is in omega (arith, same)) (λ not. let other = eqb-false number place not in omega (arith, other, behind)))

pub returns-then-number-place-clause-life : goal.returns-then-number-place-clause-life
returns-then-number-place-clause-life c =
    let same = c.if-number-place.true in
    let turn = c.loop-number-test.true in
    sym (c.loop-number.invariant.rest
    ∙ life_here c.args.script.now c.loop-number.start (31 - c.loop-number.number) (c.args.place - c.loop-number.number) c.in-Some.stop c.in-Some.ensures.some (omega (arith, turn)) (omega (arith, same)))

pub loop-number-preserved : goal.loop-number-preserved
loop-number-preserved c =
    let number = c.loop-number.number in
    let behind = c.loop-number.invariant.behind in
    let other = c.if-number-place.false in
    let turn = c.loop-number-test.true in
    record {
      rest = c.loop-number.invariant.rest
          ∙ life_behind c.args.script.now c.loop-number.start (31 - number) (31 - (number + 1)) (c.args.place - number) (c.args.place - (number + 1)) c.in-Some.stop c.in-Some.ensures.some
          (omega (arith, turn)) (omega (arith, other, behind));
      behind = omega (arith, other, behind);
      inside = c.in-Some.ensures.order.2;
    }

pub returns-clause-life : goal.returns-clause-life
returns-clause-life c =
    let place = c.args.place in
    let number = c.loop-number.number in
    let behind = c.loop-number.invariant.behind in
    let end = c.loop-number-test.false in
    let turns = c.loop-number.auto.number-end in
    c.last_life-2.ensures
    ∙ sym (c.loop-number.invariant.rest ∙ last_by_count c.args.script.now c.loop-number.start (31 - number) (place - number) (place == 31) (omega (arith, end))
    (λ is. let same = eqb-true place 31 is in omega (arith, same, end)) (λ not. let other = eqb-false place 31 not in omega (arith, other, behind, end, turns)))
