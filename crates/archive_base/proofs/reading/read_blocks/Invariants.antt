use Rattle.image_form.specs.Walking.{to_go}
use Rattle.archive_base.specs.Opening.{HasHeard}
use Rattle.archive_base.proofs.WalkedLogs.{WalksOn}
use Rattle.archive_base.proofs.reading.read_blocks.Given as goal

abbrev pub invariant-loop-opening : goal.invariant-loop-opening
invariant-loop-opening g l = WalksOn l.log l.kept l.walk (g.S.Site.state l.fn.site) (g.S.Site.state l.site) (λ done. HasHeard done l.opening.transactions)

abbrev pub decreases-loop-opening : goal.decreases-loop-opening
decreases-loop-opening g l = to_go l.log l.walk
