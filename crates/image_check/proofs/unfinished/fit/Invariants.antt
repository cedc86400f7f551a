use Rattle.image_check.proofs.Names.{◌≡◌, ◌+◌, values, owed_for}
use Rattle.image_check.proofs.unfinished.fit.Given as goal

abbrev pub invariant-loop-left : goal.invariant-loop-left
invariant-loop-left l = l.free + owed_for (values l.txns.left) ≡ l.room + owed_for l.left-iterator
