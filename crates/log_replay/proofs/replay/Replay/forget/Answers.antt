use Rattle.std.proofs.Common.{refl}
use Rattle.log_replay.proofs.Replays.{forgotten}
use Rattle.log_replay.proofs.replay.Replay.forget.Goals as goal

pub returns : goal.returns
returns c = λ pages s popped stands. forgotten pages s popped c.args.self.now _ stands refl refl refl refl c.clear.ensures.items
