use Rattle.redo_undo.proofs.Names.{sym, arith, min-le_right, first_block, begins_of}
use Rattle.redo_undo.proofs.Saved.{first_is}
use Rattle.redo_undo.proofs.checkpointing.oldest_block.Goals as goal

pub returns-then-block-kept-clause-is : goal.returns-then-block-kept-clause-is
returns-then-block-kept-clause-is c low high =
    let is = first_is c.args.next c.args.active.now (record { begin = c.at-begin.result.0; last = c.at-begin.result.1 }) c.at-begin.ensures in
    omega (arith, low, is, c.if-block-kept.true)

pub returns-then-block-next-clause-is : goal.returns-then-block-next-clause-is
returns-then-block-next-clause-is c low high =
    let is = first_is c.args.next c.args.active.now (record { begin = c.at-begin.result.0; last = c.at-begin.result.1 }) c.at-begin.ensures in
    omega (arith, high, is, c.if-block-next.true)

pub returns-clause-is : goal.returns-clause-is
returns-clause-is c low high = sym (first_is c.args.next c.args.active.now (record { begin = c.at-begin.result.0; last = c.at-begin.result.1 }) c.at-begin.ensures)

pub returns-then-block-kept-clause-least : goal.returns-then-block-kept-clause-least
returns-then-block-kept-clause-least c =
    let is = first_is c.args.next c.args.active.now (record { begin = c.at-begin.result.0; last = c.at-begin.result.1 }) c.at-begin.ensures in
    omega (arith, is, c.if-block-kept.true, min-le_right c.args.next (first_block c.args.next (begins_of c.args.active.now)))

pub returns-clause-least : goal.returns-clause-least
returns-clause-least c =
    let is = first_is c.args.next c.args.active.now (record { begin = c.at-begin.result.0; last = c.at-begin.result.1 }) c.at-begin.ensures in
    omega (arith, is, min-le_right c.args.next (first_block c.args.next (begins_of c.args.active.now)))
