use Rattle.image_check.proofs.Names.{◌≡◌, ◌&&◌, ℕ, nat_eq, not, is_some, to_go, get, is_closed}
use Rattle.image_check.proofs.Walking.{WalksOver}
use Rattle.image_check.proofs.undoable.find_open.Given as goal

abbrev pub invariant-loop-strays : goal.invariant-loop-strays
invariant-loop-strays g l = WalksOver l.found l.walk (g.S.Site.state l.fn.site) (g.S.Site.state l.site) 0 0 (λ blocks done. (t : ℕ) →
    is_some (get nat_eq l.strays.txns t) ≡ (is_some (get nat_eq l.fn.strays.txns t) && not (is_closed done t)))

abbrev pub decreases-loop-strays : goal.decreases-loop-strays
decreases-loop-strays g l = to_go l.found.log l.walk
