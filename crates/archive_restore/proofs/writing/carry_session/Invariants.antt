use Rattle.std.proofs.Common.{◌≡◌, ℕ, List, IsTrue}
use Rattle.site.specs.Calls.{Preserves}
use Rattle.site.specs.State.{State as Site}
use Rattle.site.specs.declared.geometry.Geometry.{Geometry}
use Rattle.record_model.specs.State.{Content}
use Rattle.record_model.specs.Run.{Line}
use Rattle.net_lines.specs.Nets.{idle}
use Rattle.face.specs.RunInProgress.{GoesOn}
use Rattle.archive_restore.specs.Writing.{HasCarried, IsFree}
use Rattle.archive_restore.proofs.Sessions.{HasComeTo}
use Rattle.archive_restore.proofs.writing.carry_session.Given as goal

abbrev pub invariant-loop-place : goal.invariant-loop-place
invariant-loop-place g l =
    let old = g.S.Site.state l.fn.site in
    let now = g.S.Site.state l.site in
    record {
      preserves : Preserves old now;
      left : IsTrue old.honest → now.input ≡ old.input;
      going : (entry : Site) → GoesOn entry old l.fn.engine → GoesOn entry now l.engine;
      come : (pool : ℕ) (geometry : Geometry) (entry : Site) (lines : List Line) (table : List Content) (commits made kept cap : ℕ) → HasCarried pool geometry entry old l.fn.engine lines (idle table commits made kept cap) → IsFree table made kept cap l.net
          → HasComeTo pool geometry entry old now l.engine lines table commits made kept cap l.net l.place;
    }
