use Rattle.policy_sim.proofs.Names.{List, ap, ◌∙◌, cache_of, pool_marks, eviction_plan, PoolMark}
use Rattle.policy_sim.proofs.Pushed.{seven_are_enough}
use Rattle.policy_sim.proofs.machine.Machine.candidates.Goals as goal

pub returns-then-self-clause-candidates : goal.returns-then-self-clause-candidates
returns-then-self-clause-candidates c front =
    let m = c.args.self.now in
    ap (λ (l : List PoolMark). eviction_plan m.taking.pulls m.taking.chances front l) c.candidates.ensures.candidates
    ∙ seven_are_enough m.taking.pulls m.taking.chances front (pool_marks (cache_of m))
