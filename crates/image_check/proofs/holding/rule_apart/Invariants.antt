use Rattle.image_check.proofs.Names.{reading_of, records_of, LosersCanBeUndone, logical_image_of, to_go, AreLeft}
use Rattle.image_check.proofs.HeldOnes.{Apart}
use Rattle.image_check.proofs.Walking.{WalksOver}
use Rattle.image_check.proofs.holding.rule_apart.Given as goal

abbrev pub invariant-loop-held : goal.invariant-loop-held
invariant-loop-held g l = WalksOver l.found l.walk (g.S.Site.state l.fn.site) (g.S.Site.state l.site) 0 0 (λ blocks done. LosersCanBeUndone (logical_image_of (reading_of l.found blocks) (g.S.Site.state l.fn.site).image) →
    AreLeft (records_of l.found blocks) l.left.left → Apart (records_of l.found blocks) l.held.held done)

abbrev pub decreases-loop-held : goal.decreases-loop-held
decreases-loop-held g l = to_go l.found.log l.walk
