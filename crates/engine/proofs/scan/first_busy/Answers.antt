use Rattle.engine.proofs.Names.{sym}
use Rattle.engine.proofs.Scans.{none_more, busy_at}
use Rattle.engine.proofs.scan.first_busy.Goals as goal

pub returns-in-Err : goal.returns-in-Err
returns-in-Err c = sym (busy_at c.args.locks.now c.args.session c.args.number c.args.count c.loop-offset.offset _ c.loop-offset-test.true c.loop-offset.invariant.free c.in-Err.ensures.busy)

pub loop-offset-preserved : goal.loop-offset-preserved
loop-offset-preserved c = record { free = none_more c.args.locks.now c.args.session c.args.number c.loop-offset.offset c.loop-offset.invariant.free c.in_default.ensures.ok }
