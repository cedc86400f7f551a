use Rattle.page_store.proofs.Beside.{goes_on_beside, fits_beside, current_beside, ahead_beside}
use Rattle.page_store.proofs.laws.stays_beside.Goals as goal

pub returns-clause-going : goal.returns-clause-going
returns-clause-going c = goes_on_beside

pub returns-clause-fits : goal.returns-clause-fits
returns-clause-fits c = fits_beside

pub returns-clause-current : goal.returns-clause-current
returns-clause-current c = current_beside

pub returns-clause-ahead : goal.returns-clause-ahead
returns-clause-ahead c = ahead_beside
