use Rattle.second_chance.proofs.Names.{refl, ap, ◌∙◌}
use Rattle.second_chance.proofs.Planned.{flush_is, unwrapped}
use Rattle.second_chance.proofs.plan.plan_flush_taking.Goals as goal

pub returns : goal.returns
returns c = flush_is c.args.taking.chances _ _ c.args.pool.now _ _ _ c.len.result (ap (λ b. b.now) c.unwrap_or-front.ensures ∙ unwrapped c.args.front _ refl)
    c.chance_places-chances.ensures.places c.staged_places-staged.ensures c.len.ensures.len c.changed_pages-pulled.ensures
