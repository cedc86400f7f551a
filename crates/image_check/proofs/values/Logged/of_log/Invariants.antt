use Rattle.image_check.proofs.Names.{records_of, Hears, to_go}
use Rattle.image_check.proofs.Walking.{WalksOver}
use Rattle.image_check.proofs.values.Logged.of_log.Given as goal

abbrev pub invariant-loop-logged : goal.invariant-loop-logged
invariant-loop-logged g l = WalksOver l.found l.walk (g.S.Site.state l.fn.site) (g.S.Site.state l.site) 0 0
    (λ blocks done. Hears l.found.master.redo l.lsns (records_of l.found blocks) l.logged done)

abbrev pub decreases-loop-logged : goal.decreases-loop-logged
decreases-loop-logged g l = to_go l.found.log l.walk
