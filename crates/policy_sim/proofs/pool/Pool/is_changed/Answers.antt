use Rattle.policy_sim.proofs.Names.{Option, ap, ◌∙◌, unwrap_or, none_kept, Kept}
use Rattle.policy_sim.proofs.Pooled.{marked}
use Rattle.policy_sim.proofs.pool.Pool.is_changed.Goals as goal

pub returns-in-Some : goal.returns-in-Some
returns-in-Some c = ap (λ (o : Option Kept). (unwrap_or o none_kept).changed) c.in-Some.ensures ∙ marked c.args.page c.args.self.now.pages.entries c.len-len.ensures.valid.0

pub returns-in-None : goal.returns-in-None
returns-in-None c = ap (λ (o : Option Kept). (unwrap_or o none_kept).changed) c.in-None.ensures ∙ marked c.args.page c.args.self.now.pages.entries c.len-len.ensures.valid.0
