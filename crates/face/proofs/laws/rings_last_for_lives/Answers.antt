use Rattle.face.proofs.RingLives.{lives_have_room, loads_are_complete, numbers_of_lives, runs_are_complete}
use Rattle.face.proofs.laws.rings_last_for_lives.Goals as goal

pub returns-clause-numbers : goal.returns-clause-numbers
returns-clause-numbers c = numbers_of_lives c.blank_is_ring.ensures c.work_pushes_few.ensures.work c.lines_push_few.ensures.lines

pub returns-clause-room : goal.returns-clause-room
returns-clause-room c = lives_have_room c.blank_is_ring.ensures c.work_pushes_few.ensures.work c.lines_push_few.ensures.lines

pub returns-clause-run : goal.returns-clause-run
returns-clause-run c = runs_are_complete c.blank_is_ring.ensures c.work_pushes_few.ensures.work c.lines_push_few.ensures.lines

pub returns-clause-load : goal.returns-clause-load
returns-clause-load c = loads_are_complete c.blank_is_ring.ensures c.work_pushes_few.ensures.work c.lines_push_few.ensures.lines
