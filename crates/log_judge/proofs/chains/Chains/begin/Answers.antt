use Rattle.log_judge.proofs.Names.{refl}
use Rattle.log_judge.proofs.ChainSteps.{chains_begin}
use Rattle.log_judge.proofs.Outcomes.{memory_as}
use Rattle.log_judge.proofs.chains.Chains.begin.Goals as goal

pub returns : goal.returns
returns c = memory_as c.put_begun.result (λ x put records fresh is. chains_begin records c.args.lsn _ c.args.self.now c.put_begun.new.self fresh refl refl put.0 put.1 is) c.put_begun.ensures
