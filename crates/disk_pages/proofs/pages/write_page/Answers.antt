use Rattle.disk_pages.proofs.Writing.{page_leaves}
use Rattle.disk_pages.proofs.pages.write_page.Goals as goal

pub returns-in_default-clause-any_moment : goal.returns-in_default-clause-any_moment
returns-in_default-clause-any_moment g c honest =
    page_leaves c.args.page c.place_of.result c.args.from.now (g.S.Site.state c.args.site.now) (g.S.Site.state c.write_at.new.self) c.write_at.result c.place_of.ensures c.requires.room c.requires.lies
    (c.write_at.ensures.wrote honest)

pub returns-clause-any_moment : goal.returns-clause-any_moment
returns-clause-any_moment g c honest =
    page_leaves c.args.page c.place_of.result c.args.from.now (g.S.Site.state c.args.site.now) (g.S.Site.state c.write_at.new.self) c.write_at.result c.place_of.ensures c.requires.room c.requires.lies
    (c.write_at.ensures.wrote honest)
