use Rattle.policy_sim.proofs.Pooled.{apart}
use Rattle.policy_sim.proofs.pool.Pool.len.Goals as goal

pub returns-clause-apart : goal.returns-clause-apart
returns-clause-apart c = apart c.args.self.now.pages.entries c.len.ensures.valid.0
