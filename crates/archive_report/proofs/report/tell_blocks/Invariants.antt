use Rattle.archive_report.proofs.Names.{◌≡◌, IsTrue, IsLogRing, Finds, Preserves, faults_in}
use Rattle.archive_report.proofs.UpTo.{ToldUpTo}
use Rattle.archive_report.proofs.report.tell_blocks.Given as goal

abbrev pub invariant-loop-number : goal.invariant-loop-number
invariant-loop-number g l =
    let old = g.S.Site.state l.fn.site in
    let now = g.S.Site.state l.site in
    record {
      ring : IsLogRing l.ring now;
      preserves : Preserves old now;
      faults : faults_in now ≡ faults_in old;
      told : IsTrue old.honest → Finds l.ring old → ToldUpTo l.ring l.from l.number old now;
    }
