use Rattle.page_store.proofs.Names.{◌≡◌, map, take}
use Rattle.page_store.proofs.Movable.{told_mark}
use Rattle.page_store.proofs.store.PageStore.candidates.Given as goal

abbrev pub invariant-loop-page : goal.invariant-loop-page
invariant-loop-page l = l.found.items ≡ map told_mark (take l.page-index l.page-items)
