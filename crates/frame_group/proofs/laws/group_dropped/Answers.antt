use Rattle.frame_group.proofs.LastFrames.{drop_keeps_version, drop_keeps_clean}
use Rattle.frame_group.proofs.laws.group_dropped.Goals as goal

pub returns-clause-version : goal.returns-clause-version
returns-clause-version c = drop_keeps_version

pub returns-clause-clean : goal.returns-clause-clean
returns-clause-clean c = drop_keeps_clean
