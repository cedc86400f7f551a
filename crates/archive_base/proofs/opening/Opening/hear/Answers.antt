use Rattle.std.proofs.Common.{◌∷◌, ◌++◌, [], refl, sym, subst}
use Rattle.std.specs.Prelude.{OnOk}
use Rattle.log_records.specs.declared.log_record.LogRecord.{LogRecord}
use Rattle.log_records.specs.declared.log_record.LogRecord.TheVariants.{Commit, End}
use Rattle.archive_base.specs.Opening.{HasHeard}
use Rattle.archive_base.proofs.Hearing.{on_ok, taken_heard}
use Rattle.archive_base.proofs.opening.Opening.hear.Goals as goal

pub returns-in-Begin-clause-heard : goal.returns-in-Begin-clause-heard
returns-in-Begin-clause-heard c = λ log has.
    subst (λ (rec : LogRecord). OnOk c.begin.result (HasHeard (log ++ record { lsn = c.args.lsn; rec = rec } ∷ []) c.begin.new.self.transactions)) (sym c.in-Begin.is) (c.begin.ensures.heard log has)

pub returns-in-Update-clause-heard : goal.returns-in-Update-clause-heard
returns-in-Update-clause-heard c = λ log has.
    subst (λ (rec : LogRecord). OnOk c.update.result (HasHeard (log ++ record { lsn = c.args.lsn; rec = rec } ∷ []) c.update.new.self.transactions)) (sym c.in-Update.is) (c.update.ensures.heard log has)

pub returns-in-Clr-clause-heard : goal.returns-in-Clr-clause-heard
returns-in-Clr-clause-heard c = λ log has.
    subst (λ (rec : LogRecord). OnOk c.undo.result (HasHeard (log ++ record { lsn = c.args.lsn; rec = rec } ∷ []) c.undo.new.self.transactions)) (sym c.in-Clr.is) (c.undo.ensures.heard log has)

pub returns-in-Commit-clause-heard : goal.returns-in-Commit-clause-heard
returns-in-Commit-clause-heard c = λ log has.
    subst (λ (rec : LogRecord). OnOk c.close.result (HasHeard (log ++ record { lsn = c.args.lsn; rec = rec } ∷ []) c.close.new.self.transactions)) (sym c.in-Commit.is)
    (on_ok c.close.result _ _ (λ closes. taken_heard log c.args.self.now.transactions c.close.new.self.transactions (record { lsn = c.args.lsn; rec = Commit c.in-Commit.txn _ }) c.in-Commit.txn has refl closes refl) c.close.ensures.closes)

pub returns-in-End-clause-heard : goal.returns-in-End-clause-heard
returns-in-End-clause-heard c = λ log has.
    subst (λ (rec : LogRecord). OnOk c.close-in-End.result (HasHeard (log ++ record { lsn = c.args.lsn; rec = rec } ∷ []) c.close-in-End.new.self.transactions)) (sym c.in-End.is)
    (on_ok c.close-in-End.result _ _ (λ closes. taken_heard log c.args.self.now.transactions c.close-in-End.new.self.transactions (record { lsn = c.args.lsn; rec = End c.in-End.txn }) c.in-End.txn has refl closes refl) c.close-in-End.ensures.closes)
