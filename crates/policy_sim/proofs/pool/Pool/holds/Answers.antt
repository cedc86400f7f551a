use Rattle.policy_sim.proofs.Names.{◌∙◌}
use Rattle.policy_sim.proofs.Pooled.{held}
use Rattle.policy_sim.proofs.pool.Pool.holds.Goals as goal

pub returns : goal.returns
returns c = c.contains.ensures ∙ held c.args.page c.args.self.now.pages.entries
