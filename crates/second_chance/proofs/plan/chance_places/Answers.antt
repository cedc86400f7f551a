use Rattle.std.proofs.lemmas.Grind.{common_steps}
use Rattle.second_chance.proofs.Names.{length-append, arith, chances_of}
use Rattle.second_chance.proofs.Chosen.{is_chance, place, placed_then, placed_else, chances_enough, chances_all}
use Rattle.second_chance.proofs.plan.chance_places.Goals.{then-is_wanted, else-is_wanted}
use Rattle.second_chance.proofs.plan.chance_places.Goals as goal

pub loop-place-preserved : goal.loop-place-preserved
loop-place-preserved c = grind (arith, common_steps, then-is_wanted, place, placed_then, is_chance, length-append, else-is_wanted, placed_else)

pub returns-after-loop-place-clause-places : goal.returns-after-loop-place-clause-places
returns-after-loop-place-clause-places c = grind (arith, common_steps, chances_all, place, chances_of)

pub returns-then-len-eq-MOST_CHANCES-clause-places : goal.returns-then-len-eq-MOST_CHANCES-clause-places
returns-then-len-eq-MOST_CHANCES-clause-places c = grind (arith, common_steps, chances_enough, place, chances_of)
