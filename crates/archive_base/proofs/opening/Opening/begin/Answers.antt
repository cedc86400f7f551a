use Rattle.std.proofs.Common.{refl}
use Rattle.std.specs.Prelude.{Some}
use Rattle.log_records.specs.declared.log_record.LogRecord.TheVariants.{Begin}
use Rattle.log_replay.specs.Opened.{begun}
use Rattle.archive_base.proofs.Hearing.{one_heard}
use Rattle.archive_base.proofs.opening.Opening.begin.Goals as goal

pub returns-in-Ok-clause-heard : goal.returns-in-Ok-clause-heard
returns-in-Ok-clause-heard c = λ log has.
    one_heard log c.args.self.now.transactions c.begin.new.self (record { lsn = c.args.lsn; rec = Begin }) c.args.lsn (Some (begun c.args.lsn)) has refl c.in-Ok.ensures.active refl
