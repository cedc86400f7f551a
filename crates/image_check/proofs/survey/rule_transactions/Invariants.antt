use Rattle.image_check.proofs.Names.{seen, to_go}
use Rattle.image_check.proofs.Surveyed.{SurveyedSoFar}
use Rattle.image_check.proofs.Walking.{WalksOver}
use Rattle.image_check.proofs.survey.rule_transactions.Given as goal

abbrev pub invariant-loop-survey : goal.invariant-loop-survey
invariant-loop-survey g l = WalksOver l.found l.walk (g.S.Site.state l.fn.site) (g.S.Site.state l.site) 0 0
    (λ blocks done. SurveyedSoFar (seen l.found.master) (to_go l.found.log l.walk) l.transactions.txns l.survey done)

abbrev pub decreases-loop-survey : goal.decreases-loop-survey
decreases-loop-survey g l = to_go l.found.log l.walk
