use Rattle.image_check.proofs.Names.{◌≡◌, ◌++◌, ◌∷◌, [], ◌+◌, ◌*◌, ℕ, true, false, not, sym, ap, subst, refl, ◌∙◌, and_left, AreHeld, IsListed, goes_well, Entry, is_update, is_closed, txn_by, LogRecord, Update}
use Rattle.image_check.proofs.HeldOnes.{held_more, held_same, not_update}
use Rattle.image_check.proofs.holding.HeldNumbers.hear.Goals as goal

pub returns-in_default : goal.returns-in_default
returns-in_default c = goes_well (λ log records left listed is.
    let e : Entry = record { lsn = c.args.lsn; rec = c.args.rec.now } in
    held_same log records e c.args.self.now.held (and_left (is_update c.args.rec.now) (not (is_closed log (txn_by c.args.lsn c.args.rec.now))) (not_update c.args.rec.now c.in_default.not-Update)) is)

pub returns-then-not-is_left : goal.returns-then-not-is_left
returns-then-not-is_left c = goes_well (λ log records left listed is.
    let update : LogRecord = Update c.in-Update.txn c.in-Update.prev c.in-Update.page c.in-Update.slot c.in-Update.before c.in-Update.after in
    let mine : IsListed log c.in-Update.txn = subst (λ (rec : LogRecord). IsListed log (txn_by c.args.lsn rec)) c.in-Update.is listed in
    let closed : is_closed log c.in-Update.txn ≡ true = mine ∙ ap not (sym (c.is_left.ensures log left) ∙ c.if-not-is_left.true) in
    subst (λ (rec : LogRecord). AreHeld log (records ++ record { lsn = c.args.lsn; rec = rec } ∷ []) c.args.self.now.held) (sym c.in-Update.is)
    (held_same log records (record { lsn = c.args.lsn; rec = update }) c.args.self.now.held (ap not closed) is))

pub returns : goal.returns
returns c = goes_well (λ log records left listed is.
    let update : LogRecord = Update c.in-Update.txn c.in-Update.prev c.in-Update.page c.in-Update.slot c.in-Update.before c.in-Update.after in
    let number : ℕ = 32 * c.in-Update.page + c.in-Update.slot in
    let mine : IsListed log c.in-Update.txn = subst (λ (rec : LogRecord). IsListed log (txn_by c.args.lsn rec)) c.in-Update.is listed in
    let lives : is_closed log c.in-Update.txn ≡ false = mine ∙ ap not (sym (c.is_left.ensures log left) ∙ c.if-not-is_left.false) in
    subst (λ (rec : LogRecord). AreHeld log (records ++ record { lsn = c.args.lsn; rec = rec } ∷ []) c.insert.new.self) (sym c.in-Update.is)
    (held_more log records (record { lsn = c.args.lsn; rec = update }) number c.args.self.now.held c.insert.new.self (ap not lives) refl c.in-Ok.ensures.updates.0 is))
