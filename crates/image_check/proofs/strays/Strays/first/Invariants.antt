use Rattle.image_check.proofs.Names.{◌≡◌, nat_eq, true, is_some, get}
use Rattle.image_check.proofs.strays.Strays.first.Given as goal

abbrev pub invariant-loop-place : goal.invariant-loop-place
invariant-loop-place l = is_some (get nat_eq l.self.txns l.first) ≡ true
