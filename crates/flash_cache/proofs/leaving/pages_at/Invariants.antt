use Rattle.flash_cache.proofs.Names.{◌≡◌, map, take, mark_at}
use Rattle.flash_cache.proofs.leaving.pages_at.Given as goal

abbrev pub invariant-loop-index : goal.invariant-loop-index
invariant-loop-index l = record {
  pages : l.pages.items ≡ map (λ place. (mark_at l.front place).page) (take l.index l.places);
  dirty : l.dirty.items ≡ map (λ place. (mark_at l.front place).dirty) (take l.index l.places);
}
