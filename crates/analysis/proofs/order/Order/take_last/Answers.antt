use Rattle.analysis.proofs.Names.{None, Some}
use Rattle.analysis.proofs.Orders.{remains, has_left, next, taken, none_in}
use Rattle.analysis.proofs.Pending.{next_is}
use Rattle.analysis.proofs.order.Order.take_last.Goals as goal

pub returns-in-Some-clause-remains : goal.returns-in-Some-clause-remains
returns-in-Some-clause-remains c table is = remains c.args.self.now table is c.in-Some.txn c.in-Some.lsn c.in-Some.ensures.value c.in-Some.ensures.greatest

pub returns-in-Some-clause-left : goal.returns-in-Some-clause-left
returns-in-Some-clause-left c table is = has_left c.args.self.now table is c.in-Some.txn c.in-Some.lsn c.in-Some.ensures.value c.in-Some.ensures.greatest

pub returns-in-Some-clause-order : goal.returns-in-Some-clause-order
returns-in-Some-clause-order c table now is drops = taken c.args.self.now table is c.in-Some.txn c.in-Some.lsn c.in-Some.ensures.value c.in-Some.ensures.greatest now (record { updates = c.pop_last.new.self }) drops c.in-Some.ensures.updates

pub returns-in-Some-clause-of_table : goal.returns-in-Some-clause-of_table
returns-in-Some-clause-of_table c named records table from to is says known order =
    next_is named records table says known from to order (Some (c.in-Some.txn, c.in-Some.lsn)) (next c.args.self.now table is c.in-Some.txn c.in-Some.lsn c.in-Some.ensures.value c.in-Some.ensures.greatest says.ascend)

pub returns-in-None-clause-none : goal.returns-in-None-clause-none
returns-in-None-clause-none c table ascend is = none_in c.args.self.now c.pop_last.result c.pop_last.ensures.variant c.in-None.is table is ascend

pub returns-in-None-clause-of_table : goal.returns-in-None-clause-of_table
returns-in-None-clause-of_table c named records table from to is says known order =
    next_is named records table says known from to order None (none_in c.args.self.now c.pop_last.result c.pop_last.ensures.variant c.in-None.is table is says.ascend)
