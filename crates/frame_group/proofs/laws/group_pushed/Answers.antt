use Rattle.frame_group.proofs.LastFrames.{new_version, other_versions, push_keeps_clean}
use Rattle.frame_group.proofs.laws.group_pushed.Goals as goal

pub returns-clause-new : goal.returns-clause-new
returns-clause-new c = new_version

pub returns-clause-others : goal.returns-clause-others
returns-clause-others c = other_versions

pub returns-clause-clean : goal.returns-clause-clean
returns-clause-clean c = push_keeps_clean
