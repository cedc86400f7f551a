use Rattle.page_store.proofs.Names.{◌≡◌, take, is_named, TellsOf}
use Rattle.page_store.proofs.store.PageStore.update_framed_pages.Given as goal

abbrev pub invariant-loop-page : goal.invariant-loop-page
invariant-loop-page l = record {
  kept : l.self ≡ record l.fn.self { pool = record l.fn.self.pool { framed = l.self.pool.framed } };
  told : TellsOf (is_named (take l.page-index l.pages)) l.fn.self l.self;
}
