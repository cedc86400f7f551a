use Rattle.page_store.proofs.Names.{◌≡◌, take, IsPool, cleared_all, AreTold}
use Rattle.page_store.proofs.store.PageStore.clear_all.Given as goal

abbrev pub invariant-loop-page : goal.invariant-loop-page
invariant-loop-page l = record {
  cleared : l.self ≡ record l.fn.self { pool = record l.fn.self.pool { frames = cleared_all (take l.page-index l.pages) l.fn.self.pool.frames; framed = l.self.pool.framed } };
  told : AreTold l.fn.self → AreTold l.self;
  pool : IsPool l.self.pool;
}
