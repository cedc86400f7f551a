use Rattle.page_store.proofs.Names.{◌≡◌, ◌++◌, map, take}
use Rattle.page_store.proofs.Lines.{page_line}
use Rattle.page_store.proofs.listing.list_pool.Given as goal

abbrev pub invariant-loop-page : goal.invariant-loop-page
invariant-loop-page l = l.lines ≡ l.fn.lines ++ map page_line (take l.page-index l.page-items)
