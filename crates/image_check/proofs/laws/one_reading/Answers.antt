use Rattle.image_check.proofs.Readings.{reads_once, a_reading, sound_fails_none}
use Rattle.image_check.proofs.laws.one_reading.Goals as goal

pub returns-clause-one : goal.returns-clause-one
returns-clause-one c = reads_once c.one_master.ensures.newest

pub returns-clause-some : goal.returns-clause-some
returns-clause-some c = a_reading

pub returns-clause-none : goal.returns-clause-none
returns-clause-none c = sound_fails_none c.one_master.ensures.newest
