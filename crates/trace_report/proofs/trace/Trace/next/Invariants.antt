use Rattle.std.proofs.Common.{◌≡◌, length, IsTrue}
use Rattle.site.specs.Calls.{Preserves, SameReads}
use Rattle.site.specs.Faults.{faults_in}
use Rattle.trace_report.specs.Hearing.{IsUsable, HasEnded, TakesNoMore, to_hear, HearsOnly}
use Rattle.trace_report.proofs.Heard.{SoFar}
use Rattle.trace_report.proofs.trace.Trace.next.Given as goal

abbrev pub invariant-loop-octet : goal.invariant-loop-octet
invariant-loop-octet g l =
    let old = g.S.Site.state l.fn.site in
    let now = g.S.Site.state l.site in
    record {
      preserves : Preserves old now;
      reads : SameReads old now;
      faults : faults_in now ≡ faults_in old;
      usable : IsUsable l.self;
      no_more : TakesNoMore l.fn.self l.self old now;
      count : length l.line.items ≡ l._octet;
      same : IsTrue old.honest → HearsOnly old now;
      ended : IsTrue old.honest → HasEnded l.fn.self old → HasEnded l.self now;
      so_far : IsTrue old.honest → HasEnded l.fn.self old → SoFar (to_hear l.fn.self old) (to_hear l.self now) l.line.items;
    }
