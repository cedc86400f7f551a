use Rattle.face.proofs.Names.{◌≡◌, ◌≤◌, ◌-◌, ◌++◌, IsTrue, length, SameFaults, HearsOnly, Preserves, SameReads}
use Rattle.face.proofs.trial.read_script.Given as goal

abbrev pub invariant-loop-script : goal.invariant-loop-script
invariant-loop-script g l =
    let old = g.S.Site.state l.fn.site in
    let now = g.S.Site.state l.site in
    record {
      preserves : Preserves old now;
      few : length l.script.items ≤ 65536;
      all : IsTrue old.honest → l.script.items ++ now.input.left ≡ old.input.left;
      same : IsTrue old.honest → HearsOnly old now;
      reads : SameReads old now;
      faults : SameFaults old now;
    }

abbrev pub decreases-loop-script : goal.decreases-loop-script
decreases-loop-script g l = 65537 - length l.script.items
