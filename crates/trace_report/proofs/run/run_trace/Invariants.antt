use Rattle.std.proofs.Common.{◌≡◌, ◌≤◌, IsTrue}
use Rattle.site.specs.Calls.{Preserves, SameReads}
use Rattle.site.specs.Faults.{faults_in}
use Rattle.trace_report.specs.Counting.{HaveMade}
use Rattle.trace_report.specs.Hearing.{IsUsable, HasEnded, to_hear, HearsOnly}
use Rattle.trace_report.proofs.Cut.{IsServed}
use Rattle.trace_report.proofs.run.run_trace.Given as goal

abbrev pub invariant-loop-number : goal.invariant-loop-number
invariant-loop-number g l =
    let old = g.S.Site.state l.fn.site in
    let now = g.S.Site.state l.site in
    record {
      preserves : Preserves old now;
      reads : SameReads old now;
      faults : faults_in now ≡ faults_in old;
      usable : IsUsable l.trace;
      made : HaveMade l.number l.machines;
      few : l.number ≤ 1000000;
      same : IsTrue old.honest → HearsOnly old now;
      ended : IsTrue old.honest → HasEnded l.trace now;
      served : IsTrue old.honest → IsServed l.groups l.pool old.input.left (to_hear l.trace now) l.number l.machines;
    }
