use Rattle.log_replay.proofs.Names.{◌≡◌, ◌∷◌, [], sym, ap, ◌∙◌, reverse-append, reverse, Unclosed, written}
use Rattle.log_replay.proofs.Nets.{insert_is_put}
use Rattle.log_replay.proofs.transaction.Transaction.update.Goals as goal

pub returns : goal.returns
returns c =
    let standing = ap reverse c.in_ok-push.ensures.items ∙ reverse-append c.self.inside.standing.items (c.args.stood ∷ []) in
    let net = c.in_ok-insert.ensures.entries ∙ insert_is_put c.self.inside.net.entries c.args.number c.args.after in
    (λ i. record { begin = c.self.inside.begin; last = c.args.lsn; standing = standing i; net = net i })
    ∙ ap (λ (t : Unclosed). written c.args.lsn (c.args.number, c.args.after) (c.args.stood ∷ t.standing) t) c.self.view_is
