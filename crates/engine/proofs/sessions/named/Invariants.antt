use Rattle.engine.proofs.Names.{◌≡◌, take}
use Rattle.engine.proofs.Namings.{pairs_of}
use Rattle.engine.proofs.sessions.named.Given as goal

abbrev pub invariant-loop-place : goal.invariant-loop-place
invariant-loop-place l = l.named ≡ pairs_of (take l.place l.active)
