use Rattle.engine.proofs.Names.{◌≡◌, None, range_with_len, first_busy}
use Rattle.engine.proofs.scan.first_busy.Given as goal

abbrev pub invariant-loop-offset : goal.invariant-loop-offset
invariant-loop-offset l = record { free : first_busy l.locks l.session (range_with_len l.number l.offset) ≡ None }
