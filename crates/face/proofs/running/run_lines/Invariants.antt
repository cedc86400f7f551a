use Rattle.face.proofs.Names.{IsTrue, GoesOn, IsUnderWay, IsSource}
use Rattle.face.proofs.Cuts.{Cut}
use Rattle.face.proofs.running.run_lines.Given as goal

abbrev pub invariant-loop-line : goal.invariant-loop-line
invariant-loop-line g l =
    let old = g.S.Site.state l.fn.site in
    let now = g.S.Site.state l.site in
    record {
      going : GoesOn old now l.engine;
      source : IsSource l.source;
      cut : IsTrue old.honest → Cut old.input.left l.source now l._line;
      under_way : IsUnderWay l.pool old now l.engine l._line;
    }
