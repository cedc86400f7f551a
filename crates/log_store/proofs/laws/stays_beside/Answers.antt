use Rattle.log_store.proofs.Standing.{fits_beside, holds_beside}
use Rattle.log_store.proofs.laws.stays_beside.Goals as goal

pub returns-clause-fits : goal.returns-clause-fits
returns-clause-fits c = fits_beside

pub returns-clause-holds : goal.returns-clause-holds
returns-clause-holds c = holds_beside
