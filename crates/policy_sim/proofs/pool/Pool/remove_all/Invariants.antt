use Rattle.policy_sim.proofs.Names.{◌≡◌, take, IsPool, IsListed, pages_of, names, without, Queue}
use Rattle.policy_sim.proofs.pool.Pool.remove_all.Given as goal

abbrev pub invariant-loop-place : goal.invariant-loop-place
invariant-loop-place l = record {
  pages : pages_of l.self ≡ without (names (take l.place l.pages)) (pages_of l.fn.self);
  pool : IsPool l.self;
  listed : (queue : Queue) → IsListed queue l.fn.self → IsListed queue l.self;
}
