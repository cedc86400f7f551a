use Rattle.log_judge.proofs.Sound.{judged_by}
use Rattle.log_judge.proofs.laws.sound_is_judged.Goals as goal

pub returns : goal.returns
returns c p sound = judged_by p sound
