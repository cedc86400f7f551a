use Rattle.image_check.proofs.Names.{records_of, without, FindsVersions, AreVersions, to_go, versions_on, AreLeft, HaveBegunBefore}
use Rattle.image_check.proofs.FilledOnes.{FilledSoFar}
use Rattle.image_check.proofs.Walking.{WalksOver}
use Rattle.image_check.proofs.filling.Filling.of_log.Given as goal

abbrev pub invariant-loop-filling : goal.invariant-loop-filling
invariant-loop-filling g l =
    let old = g.S.Site.state l.fn.site in
    WalksOver l.found l.walk old (g.S.Site.state l.site) (without l.filling.lengths.pages l.found.log.geometry.pages) l.found.log.geometry.pages (λ blocks done. FindsVersions l.found l.frames old → AreVersions l.found.log.geometry old.image →
    HaveBegunBefore (records_of l.found blocks) → AreLeft (records_of l.found blocks) l.left.left →
    FilledSoFar (records_of l.found blocks) (versions_on l.found.log.geometry old.image) done l.filling)

abbrev pub decreases-loop-filling : goal.decreases-loop-filling
decreases-loop-filling g l = to_go l.found.log l.walk
