use Rattle.archive_report.proofs.Names.{List, ℕ, sym, subst, ArchiveContract, FirstFails, stays_honest}
use Rattle.archive_report.proofs.Ending.{TellsLast, contract_halted, contract_told, first_halted, first_told}
use Rattle.archive_report.proofs.report.archive.Goals as goal

pub returns-in-Ok-clause-archive : goal.returns-in-Ok-clause-archive
returns-in-Ok-clause-archive g c =
    contract_told c.args.from c.in-Ok.status (g.S.Site.state c.args.site.now) (g.S.Site.state c.tell_archive.new.site) c.in-Ok.ensures.status c.in-Ok.ensures.tells c.in-Ok.ensures.sizes

pub returns-in-Ok-clause-first : goal.returns-in-Ok-clause-first
returns-in-Ok-clause-first g c =
    first_told c.in-Ok.status (g.S.Site.state c.args.site.now) (g.S.Site.state c.tell_archive.new.site) c.in-Ok.ensures.status c.in-Ok.ensures.goes.faults

pub returns-in-Err-clause-archive : goal.returns-in-Err-clause-archive
returns-in-Err-clause-archive g c =
    let old = g.S.Site.state c.args.site.now in
    let mid = g.S.Site.state c.tell_archive.new.site in
    let new = g.S.Site.state c.tell_all.new.site in
    subst (λ (n : ℕ). ArchiveContract c.args.from old new n) (sym c.status.ensures)
    (contract_halted c.args.from c.in-Err.halt old mid new c.tell_all.result
    (record { goes = c.in-Err.ensures.goes; foreign = c.in-Err.ensures.foreign; no_log = c.in-Err.ensures.no_log; sizes = c.in-Err.ensures.sizes })
    c.tell_all.ensures.preserves c.in-Err.ensures.tells
    (λ honest.
    let now = stays_honest old mid c.in-Err.ensures.goes.preserves honest in
    subst (λ (l : List ℕ). TellsLast l mid new c.tell_all.result) c.line.ensures
    (record { any_moment = c.tell_all.ensures.any_moment now; told = c.tell_all.ensures.told now; cause = c.tell_all.ensures.cause; left = (c.tell_all.ensures.same now).left })))

pub returns-in-Err-clause-first : goal.returns-in-Err-clause-first
returns-in-Err-clause-first g c =
    let old = g.S.Site.state c.args.site.now in
    let mid = g.S.Site.state c.tell_archive.new.site in
    let new = g.S.Site.state c.tell_all.new.site in
    subst (λ (n : ℕ). FirstFails n old new) (sym c.status.ensures) (first_halted c.in-Err.halt old mid new c.tell_all.result c.in-Err.ensures.goes.faults c.tell_all.ensures.faults)
