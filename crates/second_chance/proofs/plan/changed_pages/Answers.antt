use Rattle.second_chance.proofs.Names.{◌∙◌, sym, ap, length}
use Rattle.second_chance.proofs.Chosen.{chosen_enough}
use Rattle.second_chance.proofs.plan.changed_pages.Goals as goal

pub returns-then-len-room : goal.returns-then-len-room
returns-then-len-room c = c.loop-mark.invariant.changed
    ∙ chosen_enough c.args.room (λ p. p.changed) (λ p. p.page) c.args.pool.now c.loop-mark.mark-index (sym (ap length c.loop-mark.invariant.changed) ∙ sym c.len.ensures.len ∙ c.if-len-room.true)
