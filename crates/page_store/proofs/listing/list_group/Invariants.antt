use Rattle.page_store.proofs.Names.{◌≡◌, ◌+◌, ◌++◌, take, frame_lines}
use Rattle.page_store.proofs.listing.list_group.Given as goal

abbrev pub invariant-loop-index : goal.invariant-loop-index
invariant-loop-index l = l.lines ≡ l.fn.lines ++ frame_lines (l.fn.flash.directory.first + l.fn.place) 0 (take l.index l.marks)
