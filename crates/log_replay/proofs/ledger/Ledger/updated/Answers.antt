use Rattle.log_replay.proofs.Names.{◌≡◌, ◌∷◌, subst, ◌∙◌, OnOk, Unclosed, written, Puts}
use Rattle.log_replay.proofs.ledger.Ledger.updated.Goals as goal

pub returns : goal.returns
returns c = λ slot number.
    let t = c.args.transaction in
    let is = c.in_ok-update.ensures
    ∙ (λ i. written c.args.change.lsn (c.args.number, c.in_ok-content.ensures i) (c.in_ok-stood.ensures c.args.change.page c.args.change.slot slot number i ∷ t.standing) t) in
    subst (λ (u : Unclosed). OnOk c.write.result (Puts u (c.args.number, c.args.after.now) c.args.self.now c.write.new.self)) is c.write.ensures
