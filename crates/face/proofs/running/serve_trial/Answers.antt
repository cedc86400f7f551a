use Rattle.face.proofs.Names.{[], ◌∷◌}
use Rattle.face.proofs.running.serve_trial.Goals as goal

pub returns-in-Err-clause-trial : goal.returns-in-Err-clause-trial
returns-in-Err-clause-trial g c = (0 ∷ [], c.lack_memory.ensures.trial c.args.sizes.now.geometry c.args.sizes.now.pool)
