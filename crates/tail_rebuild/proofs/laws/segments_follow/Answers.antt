use Rattle.tail_rebuild.proofs.Following.{stands_again, segment_saved, group_pushed}
use Rattle.tail_rebuild.proofs.laws.segments_follow.Goals as goal

pub returns-clause-again : goal.returns-clause-again
returns-clause-again c = stands_again

pub returns-clause-saved : goal.returns-clause-saved
returns-clause-saved c = segment_saved

pub returns-clause-pushed : goal.returns-clause-pushed
returns-clause-pushed c = group_pushed
