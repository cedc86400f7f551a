use Rattle.record_model.proofs.Citing.{refl}
use Rattle.record_model.proofs.rows.rows_of_full_pages.Goals as goal

pub returns-clause-full_to_the_last_octet : goal.returns-clause-full_to_the_last_octet
returns-clause-full_to_the_last_octet c = refl

pub returns-clause-room_at_the_commit : goal.returns-clause-room_at_the_commit
returns-clause-room_at_the_commit c = refl

pub returns-clause-room_for_pending_writes : goal.returns-clause-room_for_pending_writes
returns-clause-room_for_pending_writes c = refl

pub returns-clause-full_log_first : goal.returns-clause-full_log_first
returns-clause-full_log_first c = refl
