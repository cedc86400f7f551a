use Rattle.policy_sim.proofs.Names.{◌≡◌, ℕ, Bool, take, IsPool, IsListedBy, unless, pages_of}
use Rattle.policy_sim.proofs.machine.list_unframed.Given as goal

abbrev pub invariant-loop-mark : goal.invariant-loop-mark
invariant-loop-mark l = record {
  pages : pages_of l.pool ≡ pages_of l.fn.pool;
  pool : IsPool l.pool;
  listed : (framed : ℕ → Bool) → IsListedBy framed l.fn.pool.pages.entries → IsListedBy (unless (take l.mark-index l.front) l.queue framed) l.pool.pages.entries;
}
