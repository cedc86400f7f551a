use Rattle.analysis.proofs.Names.{◌≡◌, ◌||◌, ◌&&◌, ◌==◌, ℕ, reverse, take, slice_get, list_any, Descend, has_at}
use Rattle.analysis.proofs.order.Order.add_all.Given as goal

abbrev pub invariant-loop-lsn : goal.invariant-loop-lsn
invariant-loop-lsn l = record {
  before : l.before ≡ slice_get (reverse (take l.lsn-index l.updates)) 0;
  descend : Descend (reverse (take l.lsn-index l.updates));
  added : (t n : ℕ) → has_at l.self t n ≡ (has_at l.fn.self t n || ((l.txn == t) && list_any (λ u. u == n) (take l.lsn-index l.updates)));
}
