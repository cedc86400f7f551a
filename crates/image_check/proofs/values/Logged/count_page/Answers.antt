use Rattle.image_check.proofs.Names.{sym, ap, ◌∙◌, version_is, version_in, versions_on, State}
use Rattle.image_check.proofs.values.Logged.count_page.Goals as goal

pub returns-clause-values : goal.returns-clause-values
returns-clause-values g c log finds versions are =
    let geometry = c.args.found.now.log.geometry in
    let old : State = g.S.Site.state c.args.site.now in
    c.count_on.ensures.values log (versions_on geometry old.image) are (version_is geometry old.image c.args.page c.requires.exists ∙ ap version_in (sym (c.in-Ok.ensures.version finds)))
