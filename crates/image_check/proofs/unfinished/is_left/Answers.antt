use Rattle.image_check.proofs.Names.{◌∙◌}
use Rattle.image_check.proofs.HeldOnes.{has_is}
use Rattle.image_check.proofs.unfinished.is_left.Goals as goal

pub returns : goal.returns
returns c records is = c.contains_key.ensures ∙ has_is records c.args.left.now.left c.args.txn is
