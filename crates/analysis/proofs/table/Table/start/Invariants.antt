use Rattle.analysis.proofs.Names.{◌≡◌, map, take, [], open_of}
use Rattle.analysis.proofs.table.Table.start.Given as goal

abbrev pub invariant-loop-place : goal.invariant-loop-place
invariant-loop-place l = map open_of l.transactions.entries ≡ map (λ pair. record { txn = pair.begin; last = pair.last; updates = [] }) (take l.place l.named)
