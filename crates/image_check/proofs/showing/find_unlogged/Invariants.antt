use Rattle.image_check.proofs.Names.{◌≡◌, true, take, list_all, is_logged}
use Rattle.image_check.proofs.showing.find_unlogged.Given as goal

abbrev pub invariant-loop-page : goal.invariant-loop-page
invariant-loop-page l = list_all (is_logged l.end) (take l.page l.lsns) ≡ true
