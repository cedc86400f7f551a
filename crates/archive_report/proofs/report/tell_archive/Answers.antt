use Rattle.archive_report.proofs.Names.{stays_honest}
use Rattle.archive_report.proofs.Synced.{answer_told, nothing_found}
use Rattle.archive_report.proofs.report.tell_archive.Goals as goal

pub returns-in-Ok-clause-tells : goal.returns-in-Ok-clause-tells
returns-in-Ok-clause-tells g c honest =
    let old = g.S.Site.state c.args.site.now in
    let mid = g.S.Site.state c.find_log.new.site in
    let new = g.S.Site.state c.tell_answer.new.site in
    let found = c.in-Ok.ensures.found honest in
    answer_told c.in-Ok.ring c.args.from c.tell_answer.result old mid new (c.find_log.ensures.syncs honest) (c.in-Ok.ensures.synced honest) c.in-Ok.ensures.ring found
    (c.tell_answer.ensures.tells (stays_honest old mid c.find_log.ensures.goes.preserves honest) found)

pub returns-in-Err-clause-tells : goal.returns-in-Err-clause-tells
returns-in-Err-clause-tells g c honest =
    nothing_found c.args.from c.in-Err.halt (g.S.Site.state c.args.site.now) (g.S.Site.state c.find_log.new.site) (c.find_log.ensures.syncs honest)
