use Rattle.image_check.proofs.Names.{◌==◌, ◌+◌, ◌*◌, ◌++◌, ◌∷◌, [], ℕ, nat_eq, Some, None, cond, refl, sym, subst, ◌∙◌, option_or, AreWritten, before_by, Writings, Written, get, goes_well, memory_as, LogRecord, Begin, Update, Clr, Commit, End}
use Rattle.image_check.proofs.WrittenOnes.{written_begin, written_closed, written_on}
use Rattle.image_check.proofs.written.Writings.hear.Goals as goal

pub returns-in-Begin : goal.returns-in-Begin
returns-in-Begin c = goes_well (λ log records lsn held are.
    subst (λ (rec : LogRecord). AreWritten log (records ++ record { lsn = lsn; rec = rec } ∷ []) c.args.self.now) (sym c.in-Begin.is)
    (written_begin log records (record { lsn = lsn; rec = Begin }) c.args.self.now refl refl are))

pub returns-in-Update : goal.returns-in-Update
returns-in-Update c =
    let old : Writings = c.args.self.now in
    let update : LogRecord = Update c.in-Update.txn c.in-Update.prev c.in-Update.page c.in-Update.slot c.in-Update.before c.in-Update.after in
    let number : ℕ = 32 * c.in-Update.page + c.in-Update.slot in
    memory_as c.write.result (λ x wrote log records lsn held are.
    subst (λ (rec : LogRecord). AreWritten log (records ++ record { lsn = lsn; rec = rec } ∷ []) c.write.new.self) (sym c.in-Update.is)
    (written_on log records (record { lsn = lsn; rec = update }) number old c.write.new.self held refl refl wrote.1 (λ n. wrote.0 n ∙ (λ i. let w : Written = record {
      txn = c.in-Update.txn;
      after = c.is_some-in-Update.ensures i;
      before = option_or (before_by (get nat_eq old.last number) c.in-Update.txn) (Some (c.is_some.ensures i));
    } in cond (number == n) (Some w) (get nat_eq old.last n))) are)) c.write.ensures

pub returns-in-Clr : goal.returns-in-Clr
returns-in-Clr c =
    let old : Writings = c.args.self.now in
    let clr : LogRecord = Clr c.in-Clr.txn c.in-Clr.prev c.in-Clr.undo_next c.in-Clr.page c.in-Clr.slot c.in-Clr.after in
    let number : ℕ = 32 * c.in-Clr.page + c.in-Clr.slot in
    memory_as c.write-in-Clr.result (λ x wrote log records lsn held are.
    subst (λ (rec : LogRecord). AreWritten log (records ++ record { lsn = lsn; rec = rec } ∷ []) c.write-in-Clr.new.self) (sym c.in-Clr.is)
    (written_on log records (record { lsn = lsn; rec = clr }) number old c.write-in-Clr.new.self held refl refl wrote.1 (λ n. wrote.0 n ∙ (λ i. let w : Written = record {
      txn = c.in-Clr.txn;
      after = c.is_some-in-Clr.ensures i;
      before = option_or (before_by (get nat_eq old.last number) c.in-Clr.txn) None;
    } in cond (number == n) (Some w) (get nat_eq old.last n))) are)) c.write-in-Clr.ensures

pub returns-in-Commit : goal.returns-in-Commit
returns-in-Commit c = memory_as c.close.result (λ x closes log records lsn held are.
    subst (λ (rec : LogRecord). AreWritten log (records ++ record { lsn = lsn; rec = rec } ∷ []) c.close.new.self) (sym c.in-Commit.is)
    (written_closed log records (record { lsn = lsn; rec = Commit c.in-Commit.txn c.in-Commit.number }) c.args.self.now c.close.new.self refl refl closes.1 closes.0 are)) c.close.ensures

pub returns-in-End : goal.returns-in-End
returns-in-End c = memory_as c.close-in-End.result (λ x closes log records lsn held are.
    subst (λ (rec : LogRecord). AreWritten log (records ++ record { lsn = lsn; rec = rec } ∷ []) c.close-in-End.new.self) (sym c.in-End.is)
    (written_closed log records (record { lsn = lsn; rec = End c.in-End.txn }) c.args.self.now c.close-in-End.new.self refl refl closes.1 closes.0 are)) c.close-in-End.ensures
