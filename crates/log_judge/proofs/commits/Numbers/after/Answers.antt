use Rattle.log_judge.proofs.Names.{Bool, ◌≡◌, ◌++◌, ◌∷◌, [], true≢false, sym, ap, ◌∙◌, subst, append_assoc, arith, range_with_len, Counts, Heard, commit_numbers, LogRecord}
use Rattle.log_judge.proofs.Numbering.{early_block, not_commit, heard_other, heard_commit, heard_wrong, heard_few}
use Rattle.log_judge.proofs.commits.Numbers.after.Goals as goal

pub returns-in_default : goal.returns-in_default
returns-in_default c records size heard = heard_other c.args.redo c.args.self.now records c.args.lsn c.args.rec.now (not_commit c.args.rec.now c.in_default.not-Commit) heard

pub returns-then-not-is_next : goal.returns-then-not-is_next
returns-then-not-is_next c records size heard rest a n all =
    let few = heard_few c.args.redo c.args.self.now records heard in
    let apart : commit_numbers (records ++ record { lsn = c.args.lsn; rec = c.args.rec.now } ∷ rest) ≡ range_with_len a n =
    ap commit_numbers (sym (append_assoc records (record { lsn = c.args.lsn; rec = c.args.rec.now } ∷ []) rest)) ∙ all in
    heard_wrong c.args.redo c.args.self.now records rest c.args.lsn c.in-Commit.txn c.in-Commit.number a n heard
    (λ next. true≢false (sym ((c.is_next.ensures (omega (arith, few, size))).1 next) ∙ c.if-not-is_next.true))
    (subst (λ (rec : LogRecord). commit_numbers (records ++ record { lsn = c.args.lsn; rec = rec } ∷ rest) ≡ range_with_len a n) c.in-Commit.is apart)

pub returns : goal.returns
returns c records size heard =
    let few = heard_few c.args.redo c.args.self.now records heard in
    subst (λ (rec : LogRecord). Heard c.args.redo c.with.result (records ++ record { lsn = c.args.lsn; rec = rec } ∷ [])) (sym c.in-Commit.is)
    (heard_commit c.args.redo c.args.self.now c.with.result records c.args.lsn c.in-Commit.txn c.in-Commit.number heard
    ((c.is_next.ensures (omega (arith, few, size))).0 c.if-not-is_next.false)
    (subst (λ (b : Bool). Counts c.args.self.now c.in-Commit.number b c.with.result) (early_block c.args.lsn c.args.redo) (c.with.ensures (omega (arith, few, size)))))
