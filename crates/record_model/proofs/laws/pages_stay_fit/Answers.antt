use Rattle.record_model.proofs.PageLaws.{pages_stay_fit, table_fits, seen_fits}
use Rattle.record_model.proofs.laws.pages_stay_fit.Goals as goal

pub returns-clause-stay : goal.returns-clause-stay
returns-clause-stay c = pages_stay_fit

pub returns-clause-table : goal.returns-clause-table
returns-clause-table c = table_fits

pub returns-clause-seen : goal.returns-clause-seen
returns-clause-seen c = seen_fits
