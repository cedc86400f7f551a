use Rattle.second_chance.proofs.Names.{◌≡◌, ◌≤◌, length, ◌||◌, not}
use Rattle.second_chance.proofs.Chosen.{chosen}
use Rattle.second_chance.proofs.plan.movable_pages.Given as goal

abbrev pub invariant-loop-mark : goal.invariant-loop-mark
invariant-loop-mark l = record {
  movable : l.movable ≡ chosen (λ p. p.changed || not p.framed) (λ p. p.page) l.pool l.mark-index;
  few : length l.movable ≤ l.room;
}
