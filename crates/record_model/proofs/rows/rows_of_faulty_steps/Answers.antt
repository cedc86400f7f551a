use Rattle.record_model.proofs.Citing.{refl}
use Rattle.record_model.proofs.rows.rows_of_faulty_steps.Goals as goal

pub returns-clause-read_locks : goal.returns-clause-read_locks
returns-clause-read_locks c = refl

pub returns-clause-without_read_locks : goal.returns-clause-without_read_locks
returns-clause-without_read_locks c = (refl, refl, λ e. absurd cc)

pub returns-clause-scan_locks : goal.returns-clause-scan_locks
returns-clause-scan_locks c = refl

pub returns-clause-few_scan_locks : goal.returns-clause-few_scan_locks
returns-clause-few_scan_locks c = (refl, refl, λ e. absurd cc)

pub returns-clause-get_kept_off : goal.returns-clause-get_kept_off
returns-clause-get_kept_off c = refl

pub returns-clause-pending_seen : goal.returns-clause-pending_seen
returns-clause-pending_seen c = (refl, refl)
