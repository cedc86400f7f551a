use Rattle.log_archive.proofs.StreamRows.{of_three_blocks, of_wrong_blocks}
use Rattle.log_archive.proofs.laws.streams_by_hand.Goals as goal

pub returns-clause-follow : goal.returns-clause-follow
returns-clause-follow c = of_three_blocks

pub returns-clause-wrong : goal.returns-clause-wrong
returns-clause-wrong c = of_wrong_blocks
