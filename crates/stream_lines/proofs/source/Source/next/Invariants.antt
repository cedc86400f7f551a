use Rattle.std.proofs.Common.{◌≡◌, ◌<◌, length, IsTrue}
use Rattle.std.specs.Prelude.{false}
use Rattle.site.specs.Calls.{Preserves}
use Rattle.site.specs.Faults.{faults_in}
use Rattle.stream_lines.specs.Lines.{to_hear, total, IsSource, HasEnded, HearsOnly, TakesWithin, long}
use Rattle.stream_lines.proofs.LineOctets.{HeardSoFar}
use Rattle.stream_lines.proofs.source.Source.next.Given as goal

abbrev pub invariant-loop-piece : goal.invariant-loop-piece
invariant-loop-piece g l =
    let old = g.S.Site.state l.fn.site in
    let now = g.S.Site.state l.site in
    record {
      preserves : Preserves old now;
      faults : faults_in now ≡ faults_in old;
      source : IsSource l.self;
      room : length l.line.items < 1027;
      same : IsTrue old.honest → HearsOnly old now;
      takes : IsTrue old.honest → HasEnded l.fn.self old → TakesWithin long l.fn.self old now;
      count : IsTrue old.honest → total l.self now ≡ total l.fn.self old;
      still : IsTrue old.honest → HasEnded l.fn.self old → HasEnded l.self now;
      going : IsTrue old.honest → HasEnded l.fn.self old → 0 < length l.line.items → l.fn.self.ended ≡ false;
      same_end : IsTrue old.honest → HasEnded l.fn.self old → l.self.ended ≡ l.fn.self.ended;
      so_far : IsTrue old.honest → HasEnded l.fn.self old → HeardSoFar (to_hear l.fn.self old) (to_hear l.self now) l.line.items l._piece;
    }
