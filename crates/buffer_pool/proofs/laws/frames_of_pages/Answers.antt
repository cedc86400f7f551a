use Rattle.buffer_pool.proofs.Found.{frame_of-touched, frame_of-without, frame_of-cleared, is_last, changes_one}
use Rattle.buffer_pool.proofs.laws.frames_of_pages.Goals as goal

pub returns-clause-touched : goal.returns-clause-touched
returns-clause-touched c = frame_of-touched

pub returns-clause-without : goal.returns-clause-without
returns-clause-without c = frame_of-without

pub returns-clause-cleared : goal.returns-clause-cleared
returns-clause-cleared c = frame_of-cleared

pub returns-clause-last : goal.returns-clause-last
returns-clause-last c = is_last

pub returns-clause-changed : goal.returns-clause-changed
returns-clause-changed c = changes_one
