use Rattle.second_chance.proofs.Names.{refl, ap, ◌∙◌}
use Rattle.second_chance.proofs.Planned.{eviction_is, unwrapped}
use Rattle.second_chance.proofs.plan.plan_evict_taking.Goals as goal

pub returns : goal.returns
returns c = eviction_is c.args.taking.pulls c.args.taking.chances _ _ c.args.pool.now _ _ _ c.len.result (ap (λ b. b.now) c.unwrap_or-front.ensures ∙ unwrapped c.args.front _ refl)
    c.chance_places-chances.ensures.places c.staged_places-staged.ensures c.len.ensures.len c.pulled_pages-pulled.ensures
