use Rattle.second_chance.proofs.Names.{◌∙◌, sym, ap, length, not, ◌||◌}
use Rattle.second_chance.proofs.Chosen.{chosen_enough}
use Rattle.second_chance.proofs.plan.movable_pages.Goals as goal

pub returns-then-len-room : goal.returns-then-len-room
returns-then-len-room c = c.loop-mark.invariant.movable
    ∙ chosen_enough c.args.room (λ p. p.changed || not p.framed) (λ p. p.page) c.args.pool.now c.loop-mark.mark-index (sym (ap length c.loop-mark.invariant.movable) ∙ sym c.len.ensures.len ∙ c.if-len-room.true)
