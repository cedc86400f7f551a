use Rattle.analysis.proofs.Names.{◌≡◌, ◌||◌, ◌&&◌, ◌==◌, ℕ, List, reverse, sym, ap, subst, ◌∙◌, true, list_any, Descend, has_at}
use Rattle.analysis.proofs.Maps.{OrderSoFar, order_none, order_one, order_all, readable_one, err_again}
use Rattle.analysis.proofs.analysis.Analysis.order.Goals as goal

pub loop-txn-init : goal.loop-txn-init
loop-txn-init c =
    let entries = c.args.self.now.table.transactions.entries in
    subst (λ rest. OrderSoFar entries rest c.new-order.result) (sym c.into_iter-txn-iterator.ensures.into_iter_gives.0) (order_none entries c.new-order.result c.new-order.ensures)

pub loop-txn-preserved : goal.loop-txn-preserved
loop-txn-preserved c =
    order_one c.args.self.now.table.transactions.entries c.loop-txn.txn-iterator c.loop-txn.order c.loop-txn.invariant c.requires (c.in-Some.txn.now, c.in-Some.transaction.now) c.next.new.self c.in-Some.ensures.steps c.add_all.new.self
    (λ t n. c.in-Ok.ensures.added t n ∙ ap (λ (l : List ℕ). has_at c.loop-txn.order t n || ((c.in-Some.txn.now == t) && list_any (λ u. u == n) l)) c.deref.ensures.value)
    (subst (λ (l : List ℕ). Descend (reverse l)) c.deref.ensures.value c.in-Ok.ensures.descend)

pub returns-clause-order : goal.returns-clause-order
returns-clause-order c = order_all c.args.self.now.table.transactions.entries c.loop-txn.txn-iterator c.loop-txn.order c.loop-txn.invariant c.in-None.ensures.steps.0

pub returns-in-Err-clause-readable : goal.returns-in-Err-clause-readable
returns-in-Err-clause-readable c named records from to is in_order foreign =
    readable_one c.args.self.now.table.transactions.entries c.loop-txn.txn-iterator c.loop-txn.order c.loop-txn.invariant c.requires (c.in-Some.txn.now, c.in-Some.transaction.now) c.next.new.self c.in-Some.ensures.steps named records from to is in_order
    (λ descend.
    let taken = c.in-Err.ensures.taken (err_again c.in-Err.stop foreign) (subst (λ (l : List ℕ). Descend (reverse l)) (sym c.deref.ensures.value) descend) in
    (taken.0, taken.1, taken.2, subst (λ (l : List ℕ). list_any (λ u. u == taken.1) l ≡ true) c.deref.ensures.value taken.3))
