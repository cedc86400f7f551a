use Rattle.front_end.specs.New.{AreZero}
use Rattle.front_end.proofs.new_database.first_nonzero.Given as goal

abbrev pub invariant-loop-place : goal.invariant-loop-place
invariant-loop-place l = AreZero l.octets 0 l.place
