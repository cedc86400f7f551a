-- The calls so far, and what the probe may still ask for.
use Rattle.named_keys.specs.Going.{LineSoFar}
use Rattle.named_keys.proofs.Going.{left}
use Rattle.named_keys.proofs.keys.carry_out.Given as goal

abbrev pub invariant-loop-reply : goal.invariant-loop-reply
invariant-loop-reply g l = LineSoFar l.session l.initial.probe l.probe l.initial.db l.db

abbrev pub decreases-loop-reply : goal.decreases-loop-reply
decreases-loop-reply g l = left l.probe
