use Rattle.second_chance.proofs.Names.{◌≡◌, ◌≤◌, length}
use Rattle.second_chance.proofs.Chosen.{chosen}
use Rattle.second_chance.proofs.plan.changed_pages.Given as goal

abbrev pub invariant-loop-mark : goal.invariant-loop-mark
invariant-loop-mark l = record {
  changed : l.changed ≡ chosen (λ p. p.changed) (λ p. p.page) l.pool l.mark-index;
  few : length l.changed ≤ l.room;
}
