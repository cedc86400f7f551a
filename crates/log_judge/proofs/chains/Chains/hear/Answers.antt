use Rattle.log_judge.proofs.Names.{◌∷◌, ◌++◌, [], ◌==◌, false, cond, None, nat_eq, sym, ap, subst, ◌∙◌, contains, AreChains, kept_of, LogRecord}
use Rattle.log_judge.proofs.OpenOnes.{begin_only}
use Rattle.log_judge.proofs.ChainSteps.{chains_closed}
use Rattle.log_judge.proofs.Outcomes.{goes_well, memory_as}
use Rattle.log_judge.proofs.chains.Chains.hear.Goals as goal

pub returns-then-begins : goal.returns-then-begins
returns-then-begins c = memory_as c.begin.result (λ x begun records fresh is.
    subst (λ (r : LogRecord). AreChains (records ++ record { lsn = c.args.lsn; rec = r } ∷ []) c.begin.new.self) (sym (begin_only c.args.rec.now (sym c.begins.ensures ∙ c.if-begins.true)))
    (begun records fresh is)) c.begin.ensures

pub returns-then-closes : goal.returns-then-closes
returns-then-closes c = goes_well (λ records fresh is.
    chains_closed records (record { lsn = c.args.lsn; rec = c.args.rec.now }) c.args.self.now c.close.new.self (sym c.closes.ensures ∙ c.if-closes.true)
    (λ t. c.close.ensures.chains t ∙ ap (λ n. cond (n == t) None (kept_of c.args.self.now t)) c.txn_of-txn.ensures)
    (λ t. c.close.ensures.broken t ∙ ap (λ n. cond (n == t) false (contains nat_eq c.args.self.now.broken t)) c.txn_of-txn.ensures) is)

pub returns : goal.returns
returns c = memory_as c.go_on.result (λ x went records fresh is. went records c.txn_of-txn.ensures (sym c.begins.ensures ∙ c.if-begins.false) (sym c.closes.ensures ∙ c.if-closes.false) is) c.go_on.ensures
