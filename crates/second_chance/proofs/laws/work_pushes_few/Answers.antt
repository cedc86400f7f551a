use Rattle.second_chance.proofs.GroupCounts.{touch_pushes_one, flush_pushes_changed, work_pushes_few, nearly_all_are_pushed}
use Rattle.second_chance.proofs.laws.work_pushes_few.Goals as goal

pub returns-clause-touch : goal.returns-clause-touch
returns-clause-touch c = touch_pushes_one

pub returns-clause-flush : goal.returns-clause-flush
returns-clause-flush c = flush_pushes_changed

pub returns-clause-work : goal.returns-clause-work
returns-clause-work c = work_pushes_few

pub returns-clause-reached : goal.returns-clause-reached
returns-clause-reached c = nearly_all_are_pushed
