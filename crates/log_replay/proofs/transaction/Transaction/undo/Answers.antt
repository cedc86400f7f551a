use Rattle.log_replay.proofs.Names.{◌≡◌, ◌-◌, ◌∷◌, [], take, sym, ap, ◌∙◌, reverse, Unclosed, written}
use Rattle.std.specs.Prelude.{drop}
use Rattle.log_replay.proofs.Nets.{insert_is_put, popped}
use Rattle.log_replay.proofs.transaction.Transaction.undo.Goals as goal

pub returns : goal.returns
returns c =
    let standing = popped c.pop.new.self.items c.self.inside.standing.items c.pop.result c.pop.ensures.items (c.pop.ensures.rest ∙ ap (λ n. take (n - 1) c.self.inside.standing.items) c.self.inside.standing.ok.0) in
    let net = c.in_ok-insert.ensures.entries ∙ insert_is_put c.self.inside.net.entries c.args.number c.args.after in
    (λ i. record { begin = c.self.inside.begin; last = c.args.lsn; standing = standing i; net = net i })
    ∙ ap (λ (t : Unclosed). written c.args.lsn (c.args.number, c.args.after) (drop 1 t.standing) t) c.self.view_is
