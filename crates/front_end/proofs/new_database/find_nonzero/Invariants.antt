use Rattle.std.proofs.Common.{◌≡◌, ◌⊎◌, ◌-◌, ◌≤◌, IsTrue}
use Rattle.std.specs.Prelude.{◌%◌}
use Rattle.site.specs.State.{content_of}
use Rattle.site.specs.Calls.{Preserves, IsUnchanged, ReadsMore}
use Rattle.front_end.specs.New.{AreZero}
use Rattle.front_end.specs.Faults.{SameFaults}
use Rattle.front_end.proofs.new_database.find_nonzero.Given as goal

abbrev pub invariant-loop-at : goal.invariant-loop-at
invariant-loop-at g l =
    let old = g.S.Site.state l.fn.site in
    let now = g.S.Site.state l.site in
    record {
      at : l.at ≤ l.len;
      preserves : Preserves old now;
      faults : SameFaults old now;
      reads : ReadsMore l.dev l.at old now;
      cut : (l.at ≡ l.len) ⊎ (l.at % 4096 ≡ 0);
      same : IsTrue old.honest → IsUnchanged old now;
      zeros : IsTrue old.honest → AreZero (content_of l.dev old.image) 0 l.at;
    }

abbrev pub decreases-loop-at : goal.decreases-loop-at
decreases-loop-at g l = l.len - l.at
