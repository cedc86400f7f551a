use Rattle.checkpoint.proofs.UnitParts.{one_unit, unit_read}
use Rattle.checkpoint.proofs.Standing.{one_newest}
use Rattle.checkpoint.proofs.laws.one_master.Goals as goal

pub returns-clause-unit : goal.returns-clause-unit
returns-clause-unit c = one_unit

pub returns-clause-read : goal.returns-clause-read
returns-clause-read c = unit_read

pub returns-clause-newest : goal.returns-clause-newest
returns-clause-newest c = one_newest
