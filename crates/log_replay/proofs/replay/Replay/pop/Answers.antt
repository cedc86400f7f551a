use Rattle.log_replay.proofs.Names.{refl, sym, ap, ◌∙◌, Replay}
use Rattle.log_replay.proofs.Replays.{pops, none_popped}
use Rattle.log_replay.proofs.replay.Replay.pop.Goals as goal

pub returns-clause-popped : goal.returns-clause-popped
returns-clause-popped c = λ pages s popped stands. pops pages s popped c.args.self.now _ stands refl refl refl refl c.pop_front.result c.pop_front.ensures.items

pub returns-clause-none : goal.returns-clause-none
returns-clause-none c = none_popped c.pop_front.result _ _ c.pop_front.ensures.items
