use Rattle.image_check.proofs.StrayOnes.{strays_first}
use Rattle.image_check.proofs.undoable.Undoing.none.Goals as goal

pub returns : goal.returns
returns c log = record { chains = c.none.ensures log; strays = strays_first log c.new.result c.new.ensures.empty }
