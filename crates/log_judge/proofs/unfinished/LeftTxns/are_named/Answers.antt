use Rattle.log_judge.proofs.LeftOnes.{named_are_active, active_are_named}
use Rattle.log_judge.proofs.unfinished.LeftTxns.are_named.Goals as goal

pub returns : goal.returns
returns c records left = (
  λ yes. named_are_active records c.args.self.now.left c.args.master.now.active left (c.are_those.ensures.0 yes),
  λ rule. c.are_those.ensures.1 (active_are_named records c.args.self.now.left c.args.master.now.active left rule),
)
