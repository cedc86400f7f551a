use Rattle.meta_segments.proofs.Numbers.{none_follow, group_follows, segment_follows}
use Rattle.meta_segments.proofs.laws.segments_follow.Goals as goal

pub returns-clause-none : goal.returns-clause-none
returns-clause-none c = none_follow

pub returns-clause-group : goal.returns-clause-group
returns-clause-group c = group_follows

pub returns-clause-segment : goal.returns-clause-segment
returns-clause-segment c = segment_follows
