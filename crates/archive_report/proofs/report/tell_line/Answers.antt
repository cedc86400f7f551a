use Rattle.archive_report.proofs.Told.{line_told, line_untold}
use Rattle.archive_report.proofs.report.tell_line.Goals as goal

pub returns-in-Ok-clause-tells : goal.returns-in-Ok-clause-tells
returns-in-Ok-clause-tells g c honest =
    line_told _ c.args.line.now (g.S.Site.state c.args.site.now) (g.S.Site.state c.tell_all.new.site) (c.tell_all.ensures.any_moment honest) (c.in-Ok.ensures.told honest) (c.tell_all.ensures.same honest)

pub returns-in-Err-clause-tells : goal.returns-in-Err-clause-tells
returns-in-Err-clause-tells g c honest =
    line_untold c.args.line.now (g.S.Site.state c.args.site.now) (g.S.Site.state c.tell_all.new.site) (c.tell_all.ensures.any_moment honest) (c.tell_all.ensures.same honest)
