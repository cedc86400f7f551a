use Rattle.std.proofs.lemmas.Grind.{common_steps}
use Rattle.second_chance.proofs.Names.{length-append, arith, ◌∙◌}
use Rattle.second_chance.proofs.Chosen.{is_staged, placed_then, placed_else, staged_all}
use Rattle.second_chance.proofs.plan.staged_places.Goals.{then-is_staged, else-is_staged}
use Rattle.second_chance.proofs.plan.staged_places.Goals as goal

pub loop-place-preserved : goal.loop-place-preserved
loop-place-preserved c = grind (arith, common_steps, then-is_staged, placed_then, is_staged, length-append, else-is_staged, placed_else)

pub returns : goal.returns
returns c = c.loop-place.invariant.staged ∙ staged_all c.args.chances.now c.args.front.now c.loop-place.place c.loop-place-test.false
