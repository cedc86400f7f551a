use Rattle.analysis.proofs.Names.{get_or, sym, ◌∙◌, true≢false}
use Rattle.analysis.proofs.Orders.{last_more, more_descend, refused_above, added_more, taken_before, any_at}
use Rattle.analysis.proofs.order.Order.add_all.Goals as goal

pub loop-lsn-preserved : goal.loop-lsn-preserved
loop-lsn-preserved c =
    let ns = c.args.updates.now in
    let i = c.loop-lsn.lsn-index in
    let inv = c.loop-lsn.invariant in
    record {
      before = last_more ns i c.loop-lsn-test.true c.loop-lsn.before inv.before;
      descend = more_descend ns i c.loop-lsn-test.true c.loop-lsn.before inv.before inv.descend (c.is_above.ensures.0 c.if-not-is_above.false);
      added = added_more ns i c.loop-lsn-test.true c.loop-lsn.before inv.before c.args.self.now c.loop-lsn.self c.add.new.self c.args.txn inv.added c.in-Ok.ensures.added;
    }

pub returns-then-not-is_above-clause-taken : goal.returns-then-not-is_above-clause-taken
returns-then-not-is_above-clause-taken c foreign descend =
    absurd (refused_above c.args.updates.now c.loop-lsn.lsn-index c.loop-lsn-test.true c.loop-lsn.before c.loop-lsn.invariant.before
    (λ above. true≢false (sym (c.is_above.ensures.1 above) ∙ c.if-not-is_above.true)) descend)

pub returns-in-Err-clause-taken : goal.returns-in-Err-clause-taken
returns-in-Err-clause-taken c foreign descend =
    let ns = c.args.updates.now in
    let i = c.loop-lsn.lsn-index in
    let inv = c.loop-lsn.invariant in
    let taken = c.in-Err.ensures.taken foreign in (
      taken.0,
      get_or ns i 0,
      taken_before ns i c.loop-lsn-test.true c.loop-lsn.before inv.before c.args.self.now c.loop-lsn.self c.add.new.self c.args.txn inv.added taken.0 taken.1 descend,
      any_at ns i c.loop-lsn-test.true c.loop-lsn.before inv.before c.args.self.now c.loop-lsn.self c.add.new.self c.args.txn inv.added,
    )
