use Rattle.std.proofs.Common.{◌==◌, ◌∷◌, nat_eq, cond, ap, ◌∙◌}
use Rattle.std.specs.Prelude.{Some}
use Rattle.indexmap.specs.IndexMap.{get}
use Rattle.log_archive.specs.Accepted.{Unclosed}
use Rattle.log_replay.specs.Opened.{written}
use Rattle.archive_base.proofs.opening.Opening.updated.Goals as goal

pub returns : goal.returns
returns c = λ slot number t.
    let u = c.args.transaction in
    let is = c.in_ok-update.ensures
    ∙ (λ i. written c.args.change.lsn (c.args.number, c.in_ok-content.ensures i) (c.in_ok-stood.ensures c.args.change.page c.args.change.slot slot number i ∷ u.standing) u) in
    c.in_ok-put.ensures.active t ∙ ap (λ (x : Unclosed). cond (x.begin == t) (Some x) (get nat_eq c.args.self.now.transactions.active t)) is
