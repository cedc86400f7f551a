use Rattle.frame_group.proofs.LastFrames.{staging_keeps_versions, staging_keeps_clean}
use Rattle.frame_group.proofs.laws.staged.Goals as goal

pub returns-clause-versions : goal.returns-clause-versions
returns-clause-versions c = staging_keeps_versions

pub returns-clause-clean : goal.returns-clause-clean
returns-clause-clean c = staging_keeps_clean
