use Rattle.image_check.proofs.Names.{refl}
use Rattle.image_check.proofs.StrayOnes.{chains_first}
use Rattle.image_check.proofs.chains.Chains.none.Goals as goal

pub returns : goal.returns
returns c log = chains_first log _ c.new.ensures.empty refl
