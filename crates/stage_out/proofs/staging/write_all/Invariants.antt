use Rattle.std.proofs.Common.{IsTrue}
use Rattle.std.specs.Prelude.{Ok}
use Rattle.disk_pages.specs.Calls.{WritesDisk}
use Rattle.stage_out.specs.Staged.{HasWritten, HasLeft}
use Rattle.stage_out.proofs.staging.write_all.Given as goal

abbrev pub invariant-loop-place : goal.invariant-loop-place
invariant-loop-place g l =
    let old = g.S.Site.state l.fn.site in
    let now = g.S.Site.state l.site in
    record {
      left : IsTrue old.honest → HasLeft l.pages old now;
      written : IsTrue old.honest → HasWritten l.pages l.contents l.place old now;
      writes : WritesDisk {T = Unit {0}} (Ok tt) old now;
    }
