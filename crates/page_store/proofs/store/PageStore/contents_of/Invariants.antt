use Rattle.page_store.proofs.Names.{◌≡◌, take, map, content_in}
use Rattle.page_store.proofs.store.PageStore.contents_of.Given as goal

abbrev pub invariant-loop-page : goal.invariant-loop-page
invariant-loop-page l = l.contents.items ≡ map (content_in l.self.pool.frames) (take l.page-index l.pages)
