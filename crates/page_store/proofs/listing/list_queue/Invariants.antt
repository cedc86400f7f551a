use Rattle.page_store.proofs.Names.{◌≡◌, ◌++◌, take, group_lines, marks}
use Rattle.page_store.proofs.listing.list_queue.Given as goal

abbrev pub invariant-loop-place : goal.invariant-loop-place
invariant-loop-place l = l.lines ≡ l.fn.lines ++ group_lines l.fn.flash.directory.first (take l.place (marks l.fn.flash.directory))
