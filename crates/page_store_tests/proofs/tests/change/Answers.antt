use Rattle.std.proofs.Common.{◌∙◌}
use Rattle.page_store.proofs.Versions.{pages_later}
use Rattle.page_store_tests.proofs.tests.change.Goals as goal

pub returns : goal.returns
returns g c = record {
  going = record {
    pages = c.change_front.ensures.going (g.S.Site.state c.append.new.site) (pages_later c.touch.new.pages (g.S.Site.state c.touch.new.site) (g.S.Site.state c.append.new.site) c.append.ensures.preserves c.touch.ensures.going.pages);
    records = c.append.ensures.going;
    sizes = c.change_front.ensures.sizes ∙ c.touch.ensures.going.sizes;
    log_sizes = c.append.ensures.sizes;
  };
}
