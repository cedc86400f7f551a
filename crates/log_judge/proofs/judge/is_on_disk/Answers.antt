use Rattle.log_judge.proofs.Names.{◌≡◌, ◌*◌, ◌<◌, ℕ, nat_lt, Some, length, sym, subst, IsTrue, ◌↔◌, number_of, LogRecord}
use Rattle.log_records.specs.Spelling.{HasForm}
use Rattle.log_judge.proofs.Judged.{on_disk}
use Rattle.log_judge.proofs.judge.is_on_disk.Goals as goal

pub returns-in-Update : goal.returns-in-Update
returns-in-Update c of lsn size =
    subst (λ (r : LogRecord). IsTrue (nat_lt c.in-Update.page c.args.pages) ↔ ((number : ℕ) → number_of r ≡ Some number → number < 32 * length of)) (sym c.in-Update.is)
    (on_disk c.in-Update.page c.in-Update.slot c.args.pages of (subst HasForm c.in-Update.is c.requires.form).0 size)

pub returns-in-Clr : goal.returns-in-Clr
returns-in-Clr c of lsn size =
    subst (λ (r : LogRecord). IsTrue (nat_lt c.in-Clr.page c.args.pages) ↔ ((number : ℕ) → number_of r ≡ Some number → number < 32 * length of)) (sym c.in-Clr.is)
    (on_disk c.in-Clr.page c.in-Clr.slot c.args.pages of (subst HasForm c.in-Clr.is c.requires.form).0 size)
