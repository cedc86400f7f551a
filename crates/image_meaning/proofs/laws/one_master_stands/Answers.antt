use Rattle.image_meaning.proofs.OneMeanings.{one_meaning_for, one_master_stands, newest_is_read, read_is_newest}
use Rattle.image_meaning.proofs.laws.one_master_stands.Goals as goal

pub returns-clause-meaning : goal.returns-clause-meaning
returns-clause-meaning c = one_meaning_for

pub returns-clause-one : goal.returns-clause-one
returns-clause-one c = one_master_stands

pub returns-clause-read : goal.returns-clause-read
returns-clause-read c = newest_is_read

pub returns-clause-found : goal.returns-clause-found
returns-clause-found c = read_is_newest
