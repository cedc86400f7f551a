use Rattle.log_store.proofs.Names.{◌-◌}
use Rattle.log_store.proofs.Finding.{IsReading}
use Rattle.log_store.proofs.reading.record_at.Given as goal

abbrev pub invariant-loop-at : goal.invariant-loop-at
invariant-loop-at l = IsReading l.octets l.used l.offset l.at

abbrev pub decreases-loop-at : goal.decreases-loop-at
decreases-loop-at l = l.used - l.at
