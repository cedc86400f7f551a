use Rattle.std.proofs.Common.{◌==◌, nat_eq, cond, drop, ap, ◌∙◌}
use Rattle.std.specs.Prelude.{Some}
use Rattle.indexmap.specs.IndexMap.{get}
use Rattle.log_archive.specs.Accepted.{Unclosed}
use Rattle.log_replay.specs.Opened.{written}
use Rattle.archive_base.proofs.opening.Opening.undone.Goals as goal

pub returns : goal.returns
returns c = λ t.
    let u = c.args.transaction in
    let is = c.in_ok-undo.ensures ∙ ap (λ o. written c.args.lsn (c.args.number, o) (drop 1 u.standing) u) c.in_ok-content.ensures in
    c.in_ok-put.ensures.active t ∙ ap (λ (x : Unclosed). cond (x.begin == t) (Some x) (get nat_eq c.args.self.now.transactions.active t)) is
