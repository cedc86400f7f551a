use Rattle.log_replay.proofs.Names.{◌≡◌, replicate, None}
use Rattle.log_replay.proofs.table.Table.blank.Given as goal

abbrev pub invariant-loop-count : goal.invariant-loop-count
invariant-loop-count l = l.contents.items ≡ replicate l._count None
