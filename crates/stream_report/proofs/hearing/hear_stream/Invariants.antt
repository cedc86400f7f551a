use Rattle.std.proofs.Common.{◌≡◌, ℕ, List, length, IsTrue}
use Rattle.site.specs.Calls.{Preserves}
use Rattle.site.specs.Faults.{faults_in}
use Rattle.stream_lines.specs.Lines.{AsksFor, HasCut, HasEnded, HearsOnly, IsSource, to_hear, total}
use Rattle.stream_report.specs.Streams.{AreAccepted}
use Rattle.stream_report.proofs.Heard.{IsHeard}
use Rattle.stream_report.proofs.hearing.hear_stream.Given as goal

abbrev pub invariant-loop-number : goal.invariant-loop-number
invariant-loop-number g l =
    let old = g.S.Site.state l.fn.site in
    let now = g.S.Site.state l.site in
    record {
      preserves : Preserves old now;
      faults : faults_in now ≡ faults_in old;
      source : IsSource l.source;
      same : IsTrue old.honest → HearsOnly old now;
      ended : IsTrue old.honest → HasEnded l.source now;
      all : IsTrue old.honest → total l.source now ≡ length old.input.left;
      heard : IsTrue old.honest → (lines : List (List ℕ)) × IsHeard l.pages old.input.left (to_hear l.source now) lines l.number l.replay × HasCut lines l.source old now;
      asks : IsTrue old.honest → AsksFor (AreAccepted l.pages) old now;
    }
