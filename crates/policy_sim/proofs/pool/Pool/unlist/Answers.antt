use Rattle.policy_sim.proofs.Names.{◌∙◌, struck}
use Rattle.policy_sim.proofs.Struck.{struck_of}
use Rattle.policy_sim.proofs.pool.Pool.unlist.Goals as goal

pub returns-clause-listed : goal.returns-clause-listed
returns-clause-listed c =
    let old = c.args.self.now in
    c.strike.ensures.listed ∙ (λ i. struck (c.kept-kept.ensures i) (c.requires.listed i)) ∙ struck_of old.next c.args.page old.pages.entries c.requires.stamped
