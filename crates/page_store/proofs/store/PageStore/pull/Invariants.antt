use Rattle.page_store.proofs.Names.{◌≡◌, ◌++◌, List, map, take, Frame, without_all, pulled, IsStore, Has}
use Rattle.page_store.proofs.store.PageStore.pull.Given as goal

abbrev pub invariant-loop-place : goal.invariant-loop-place
invariant-loop-place l = record {
  kept : l.self ≡ record l.fn.self { pool = record l.fn.self.pool { frames = without_all (take l.place (map (λ f. f.page) (pulled l.fn.self))) l.fn.self.pool.frames; framed = l.self.pool.framed } };
  store : IsStore l.self;
  taken : (frames : List Frame) → Has l.fn.taken frames → Has l.taken (frames ++ take l.place (pulled l.fn.self));
}
