use Rattle.log_replay.proofs.Names.{◌≡◌, ◌++◌}
use Rattle.log_replay.proofs.transaction.Transaction.into_net.Given as goal

abbrev pub invariant-loop-number : goal.invariant-loop-number
invariant-loop-number l = l.writes.items ++ l.number-iterator ≡ l.self-inside.net.entries
