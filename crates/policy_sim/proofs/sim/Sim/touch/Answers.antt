use Rattle.std.proofs.lemmas.Grind.{common_steps}
use Rattle.policy_sim.proofs.Names.{arith}
use Rattle.policy_sim.proofs.Listed.{after_more}
use Rattle.policy_sim.proofs.sim.Sim.touch.Goals as goal

pub returns-clause-after : goal.returns-clause-after
returns-clause-after c = grind (arith, common_steps)

pub returns-clause-counts_are_the_machines : goal.returns-clause-counts_are_the_machines
returns-clause-counts_are_the_machines c kind groups pool touches after =
    after_more kind groups pool touches c.args.self.now _ c.args.page c.args.change (returns-clause-after c) after
