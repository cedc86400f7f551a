use Rattle.second_chance.proofs.Names.{◌≡◌, ◌≤◌, length}
use Rattle.second_chance.proofs.Chosen.{placed, is_chance}
use Rattle.second_chance.proofs.plan.chance_places.Given as goal

abbrev pub invariant-loop-place : goal.invariant-loop-place
invariant-loop-place l = record {
  chances : l.chances ≡ placed is_chance l.front l.place;
  few : length l.chances ≤ 7;
}
