use Rattle.analysis.proofs.Names.{ap, ◌∙◌, arith}
use Rattle.analysis.proofs.Maps.{owed_is, owed_values, count_is}
use Rattle.analysis.proofs.analysis.Analysis.owed.Goals as goal

pub loop-transaction-init : goal.loop-transaction-init
loop-transaction-init c =
    omega (arith, ap owed_values (c.into_iter-transaction-iterator.ensures.into_iter_gives ∙ c.values-transaction-items.ensures.rest) ∙ owed_is c.args.self.now.table.transactions.entries)

pub loop-transaction-preserved : goal.loop-transaction-preserved
loop-transaction-preserved c = omega (arith, c.loop-transaction.invariant, ap owed_values c.in-Some.ensures.steps, count_is c.in-Some.transaction.now c.len.result c.len.ensures)

pub overflow_add-sum-in-loop-transaction : goal.overflow_add-sum-in-loop-transaction
overflow_add-sum-in-loop-transaction c =
    omega (arith, c.loop-transaction.invariant, ap owed_values c.in-Some.ensures.steps, count_is c.in-Some.transaction.now c.len.result c.len.ensures, c.requires.bounded)
