use Rattle.std.proofs.Common.{◌≡◌, ◌++◌, ◌-◌, ◌≤◌, length, take, IsTrue}
use Rattle.site.specs.Calls.{Preserves, SameReads}
use Rattle.site.specs.Faults.{faults_in}
use Rattle.site.specs.Moments.{EachMoment}
use Rattle.site.specs.Telling.{HandsRest, TellsOnly, TellsPart, SameDevices}
use Rattle.site.proofs.telling.tell_all.Given as goal

abbrev pub invariant-loop-at : goal.invariant-loop-at
invariant-loop-at g l =
    let old = g.S.Site.state l.fn.site in
    let now = g.S.Site.state l.site in
    record {
      at : l.at ≤ length l.piece;
      preserves : Preserves old now;
      reads : SameReads old now;
      faults : faults_in now ≡ faults_in old;
      same : IsTrue old.honest → SameDevices old now;
      told : IsTrue old.honest → now.told ≡ old.told ++ take l.at l.piece;
      tells_only : IsTrue old.honest → TellsOnly l.at old now;
      any_moment : IsTrue old.honest → EachMoment old now (TellsPart l.piece old);
      hands : IsTrue old.honest → EachMoment old now (HandsRest l.piece old);
    }

abbrev pub decreases-loop-at : goal.decreases-loop-at
decreases-loop-at g l = length l.piece - l.at
