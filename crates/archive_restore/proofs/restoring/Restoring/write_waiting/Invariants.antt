use Rattle.std.proofs.Common.{◌≡◌, ◌-◌, ◌≤◌, ℕ, IsTrue}
use Rattle.site.specs.State.{State as Site}
use Rattle.site.specs.Calls.{Preserves}
use Rattle.site.specs.declared.geometry.Geometry.{Geometry}
use Rattle.front_end.specs.Faults.{SameFaults}
use Rattle.log_archive.specs.Accepted.{Stream}
use Rattle.archive_restore.specs.Progress.{GoesOnRestoring, HasWritten}
use Rattle.archive_restore.proofs.restoring.Restoring.write_waiting.Given as goal

abbrev pub invariant-loop-self : goal.invariant-loop-self
invariant-loop-self g l =
    let old = g.S.Site.state l.fn.site in
    let now = g.S.Site.state l.site in
    record {
      most : l.self.written ≤ l.count;
      source : l.self.source ≡ l.fn.self.source;
      preserves : Preserves old now;
      faults : SameFaults old now;
      left : IsTrue old.honest → now.input ≡ old.input;
      going : (number : ℕ) (entry : Site) → GoesOnRestoring number entry old l.fn.self → GoesOnRestoring number entry now l.self;
      writes : (pool : ℕ) (geometry : Geometry) (s : Stream) (entry : Site) → HasWritten pool geometry s entry old l.fn.self → HasWritten pool geometry s entry now l.self;
    }

abbrev pub decreases-loop-self : goal.decreases-loop-self
decreases-loop-self g l = l.count - l.self.written
