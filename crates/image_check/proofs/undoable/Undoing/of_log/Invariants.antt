use Rattle.image_check.proofs.Names.{IsUndoing, records_of, to_go, AreLeft, HaveBegunBefore}
use Rattle.image_check.proofs.Walking.{WalksOver}
use Rattle.image_check.proofs.undoable.Undoing.of_log.Given as goal

abbrev pub invariant-loop-undoing : goal.invariant-loop-undoing
invariant-loop-undoing g l = WalksOver l.found l.walk (g.S.Site.state l.fn.site) (g.S.Site.state l.site) 0 0 (λ blocks done. HaveBegunBefore (records_of l.found blocks) →
    AreLeft (records_of l.found blocks) l.left.left → IsUndoing (records_of l.found blocks) done l.undoing)

abbrev pub decreases-loop-undoing : goal.decreases-loop-undoing
decreases-loop-undoing g l = to_go l.found.log l.walk
