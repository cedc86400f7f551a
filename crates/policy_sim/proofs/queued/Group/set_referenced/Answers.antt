use Rattle.flash_directory.proofs.Frames.{refill-read_at}
use Rattle.policy_sim.proofs.queued.Group.set_referenced.Goals as goal

pub returns : goal.returns
returns c = refill-read_at _ _ _ c.args.index _ c.deref_mut.ensures.value c.self.view_is c.requires
