use Rattle.page_store.proofs.Names.{◌≡◌, take, is_marked, TellsOf}
use Rattle.page_store.proofs.store.PageStore.update_framed_marks.Given as goal

abbrev pub invariant-loop-mark : goal.invariant-loop-mark
invariant-loop-mark l = record {
  kept : l.self ≡ record l.fn.self { pool = record l.fn.self.pool { framed = l.self.pool.framed } };
  told : TellsOf (is_marked (take l.mark-index l.marks)) l.fn.self l.self;
}
