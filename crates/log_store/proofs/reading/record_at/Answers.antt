use Rattle.log_store.proofs.Names.{arith, some_octet}
use Rattle.log_store.proofs.Finding.{read_on, read_here, read_none, read_all}
use Rattle.log_store.proofs.reading.record_at.Goals as goal

pub returns-in_default-clause-found : goal.returns-in_default-clause-found
returns-in_default-clause-found c = read_none c.args.octets.now c.args.used c.args.offset c.loop-at.at c.loop-at.invariant c.loop-at-test.true c.in_default.ensures.bad

pub returns-then-at-offset-clause-found : goal.returns-then-at-offset-clause-found
returns-then-at-offset-clause-found c = read_here c.args.octets.now c.args.used c.args.offset c.loop-at.at c.loop-at.invariant c.in-Ok.end c.in-Ok.rec c.loop-at-test.true c.in-Ok.ensures.found c.if-at-offset.true

pub loop-at-smaller : goal.loop-at-smaller
loop-at-smaller c =
    let found = c.in-Ok.ensures.found in
    omega (arith, some_octet c.in-Ok.rec, found.length_is, found.inside, c.loop-at-test.true)

pub loop-at-preserved : goal.loop-at-preserved
loop-at-preserved c = read_on c.args.octets.now c.args.used c.args.offset c.loop-at.at c.loop-at.invariant c.in-Ok.end c.in-Ok.rec c.loop-at-test.true c.in-Ok.ensures.found c.if-at-offset.false

pub returns-clause-found : goal.returns-clause-found
returns-clause-found c = read_all c.args.octets.now c.args.used c.args.offset c.loop-at.at c.loop-at.invariant c.loop-at-test.false
