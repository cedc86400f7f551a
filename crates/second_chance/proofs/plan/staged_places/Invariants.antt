use Rattle.second_chance.proofs.Names.{◌≡◌, ◌≤◌, length}
use Rattle.second_chance.proofs.Chosen.{placed, is_staged}
use Rattle.second_chance.proofs.plan.staged_places.Given as goal

abbrev pub invariant-loop-place : goal.invariant-loop-place
invariant-loop-place l = record {
  staged : l.staged ≡ placed (is_staged l.chances) l.front l.place;
  few : length l.staged ≤ l.place;
}
