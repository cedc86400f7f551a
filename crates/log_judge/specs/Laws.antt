-- Laws on what is judged.
use Rattle.log_records.specs.Sound.{LogicalImage, IsSound}
use Rattle.log_judge.specs.Rules.{IsJudged}

-- a sound image keeps the rules that are judged
abbrev pub SoundIsJudged : Type 0
SoundIsJudged = (p : LogicalImage) → IsSound p → IsJudged p
