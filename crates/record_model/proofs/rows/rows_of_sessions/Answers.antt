use Rattle.record_model.proofs.Citing.{refl}
use Rattle.record_model.proofs.rows.rows_of_sessions.Goals as goal

pub returns-clause-write_keeps_readers_off : goal.returns-clause-write_keeps_readers_off
returns-clause-write_keeps_readers_off c = refl

pub returns-clause-read_keeps_writers_off : goal.returns-clause-read_keeps_writers_off
returns-clause-read_keeps_writers_off c = refl

pub returns-clause-sessions_refused : goal.returns-clause-sessions_refused
returns-clause-sessions_refused c = refl

pub returns-clause-scan_among_writes : goal.returns-clause-scan_among_writes
returns-clause-scan_among_writes c = refl

pub returns-clause-erased_before_commit : goal.returns-clause-erased_before_commit
returns-clause-erased_before_commit c = refl

pub returns-clause-quit_ends : goal.returns-clause-quit_ends
returns-clause-quit_ends c = refl
