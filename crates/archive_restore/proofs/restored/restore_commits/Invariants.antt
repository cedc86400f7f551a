use Rattle.std.proofs.Common.{◌≤◌, IsTrue}
use Rattle.site.specs.State.{State as Site}
use Rattle.site.specs.Calls.{IsUnchanged, Preserves}
use Rattle.site.specs.declared.geometry.Geometry.{Geometry}
use Rattle.front_end.specs.Faults.{SameFaults}
use Rattle.archive_restore.specs.Progress.{GoesOnRestoring, IsUnderWay}
use Rattle.archive_restore.specs.Restores.{IsTarget}
use Rattle.archive_restore.proofs.restored.restore_commits.Given as goal

abbrev pub invariant-loop-line : goal.invariant-loop-line
invariant-loop-line g l =
    let old = g.S.Site.state l.fn.site in
    let now = g.S.Site.state l.site in
    record {
      preserves : Preserves old now;
      faults : SameFaults old now;
      most : l.restoring.written ≤ l.count;
      going : (entry : Site) × Preserves old entry × (IsTrue old.honest → IsUnchanged old entry) × GoesOnRestoring l.line entry now l.restoring;
      progress : (geometry : Geometry) → IsTarget geometry old → IsUnderWay l.pool l.count geometry old now l.restoring l.line;
    }
