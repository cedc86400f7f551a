use Rattle.analysis.proofs.Names.{refl, arith}
use Rattle.analysis.proofs.Starting.{named_more}
use Rattle.analysis.proofs.table.Table.start.Goals as goal

pub loop-place-preserved : goal.loop-place-preserved
loop-place-preserved c = named_more c.args.named.now c.loop-place.place c.loop-place.transactions c.insert.new.self c.at-txn.result (record { last = c.at-txn.result.1; updates = c.new.result }) c.requires (omega (arith, c.loop-place-test.true, c.len-place-end.ensures)) c.at-txn.ensures refl c.new.ensures.items c.loop-place.invariant c.in-Ok.ensures.entries
