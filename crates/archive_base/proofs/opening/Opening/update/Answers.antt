use Rattle.std.proofs.Common.{◌∷◌, ◌+◌, ◌*◌, refl, sym, ap, arith}
use Rattle.std.specs.Prelude.{Some}
use Rattle.log_records.specs.declared.log_record.LogRecord.TheVariants.{Update}
use Rattle.log_replay.specs.Opened.{written}
use Rattle.archive_base.specs.Opening.{heard_by}
use Rattle.archive_base.proofs.Hearing.{put_heard, taken_heard}
use Rattle.archive_base.proofs.opening.Opening.update.Goals as goal

pub returns-in_default-clause-heard : goal.returns-in_default-clause-heard
returns-in_default-clause-heard c = λ log has.
    let ch = c.args.change in
    let rec = Update ch.txn ch.prev ch.page ch.slot c.args.before.now c.args.after.now in
    taken_heard log c.args.self.now.transactions c.take.new.self (record { lsn = ch.lsn; rec = rec }) ch.txn has refl c.in_default.ensures.others (ap (heard_by ch.lsn rec) (sym c.in_default.ensures.taken))

pub returns-in-Ok-clause-heard : goal.returns-in-Ok-clause-heard
returns-in-Ok-clause-heard c = λ log has.
    let ch = c.args.change in
    let u = c.in-Some.transaction in
    let rec = Update ch.txn ch.prev ch.page ch.slot c.args.before.now c.args.after.now in
    put_heard log c.args.self.now.transactions c.take.new.self c.updated.new.self.transactions (record { lsn = ch.lsn; rec = rec }) ch.txn u _ has refl c.in-Some.ensures.taken c.in-Some.ensures.others
    (c.in-Ok.ensures (let at = c.from.ensures in let less = c.if-from-ge-RECORDS.false in omega (arith, at, less)) (ap (λ n. 32 * ch.page + n) c.from-2.ensures))
    (ap (λ n. Some (written ch.lsn (32 * ch.page + n, c.args.after.now) (record { prev = ch.prev; page = ch.page; slot = ch.slot; before = c.args.before.now } ∷ u.standing) u)) (sym c.from-2.ensures))
