use Rattle.policy_sim.proofs.Names.{◌≡◌, ◌++◌, take, pages_of, pulled_frames}
use Rattle.policy_sim.proofs.group.add_pulled.Given as goal

abbrev pub invariant-loop-place : goal.invariant-loop-place
invariant-loop-place l = l.frames.items ≡ l.fn.frames.items ++ pulled_frames (pages_of l.pool) (take l.place l.pulled)
