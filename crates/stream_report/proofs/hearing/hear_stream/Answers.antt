use Rattle.std.proofs.Common.{◌≡◌, [], ◌∷◌, ◌++◌, true, false, refl, sym, ap, subst, ◌∙◌, arith, IsTrue}
use Rattle.std.specs.Prelude.{Err}
use Rattle.site.proofs.Laws.{stays_honest, goes_nowhere, goes_in_sequence}
use Rattle.stream_lines.specs.declared.source.Heard.TheVariants as heard
use Rattle.stream_lines.specs.Lines.{AsksFor, to_hear}
use Rattle.stream_lines.proofs.Asked.{asks_more, asks_none, cut_more, cut_none}
use Rattle.log_archive.specs.Accepted.{AfterLine}
use Rattle.stream_report.proofs.Heard.{unheard, nothing_left, nothing_taken, total_first, heard_more, heard_all, bad_here, too_long, few_lines, few_octets, first_line, hears_as, hears_then}
use Rattle.stream_report.specs.Streams.{AreAccepted}
use Rattle.stream_report.proofs.hearing.hear_stream.Given.{Over}
use Rattle.stream_report.proofs.hearing.hear_stream.Goals.{After-next}
use Rattle.stream_report.proofs.hearing.hear_stream.Goals as goal

pub loop-number-init : goal.loop-number-init
loop-number-init g c =
    let now = g.S.Site.state c.args.site.now in
    record {
      preserves = goes_nowhere now;
      faults = refl;
      source = c.new-source.ensures.source;
      same = λ honest. record { image = refl; loose = refl; told = refl; past = refl; reads = λ dev. refl };
      ended = λ honest at. absurd (let bad : true ≡ false = sym at ∙ c.new-source.ensures.going in cc);
      all = λ honest. total_first c.new-source.result now c.new-source.ensures.taken;
      heard = λ honest. (
        [],
        unheard c.args.pages now.input.left (to_hear c.new-source.result now) c.in-Ok.replay (nothing_taken c.new-source.result now c.new-source.ensures.empty) c.in-Ok.ensures.stands,
        cut_none c.new-source.result now now c.new-source.ensures.empty refl,
      );
      asks = λ honest. asks_none (AreAccepted c.args.pages) now now refl;
    }

-- where the next line was to be heard
module _ (g : Over) (c : After-next g) (honest : IsTrue (g.S.Site.state c.args.site.now).honest) where
  asks_here : AsksFor (AreAccepted c.args.pages) (g.S.Site.state c.args.site.now) (g.S.Site.state c.next.new.site)
  asks_here =
      let inv = c.loop-number.invariant in
      let h = inv.heard honest in
      asks_more (AreAccepted c.args.pages) h.0 c.loop-number.source (g.S.Site.state c.args.site.now) (g.S.Site.state c.loop-number.site) h.2 (h.1.mid, h.1.accepted) (inv.same honest).told (g.S.Site.state c.next.new.site)
      (c.next.ensures.takes (stays_honest _ _ inv.preserves honest) (inv.ended honest)) (inv.asks honest)

pub returns-in_default-clause-asks : goal.returns-in_default-clause-asks
returns-in_default-clause-asks g c honest = asks_none (AreAccepted c.args.pages) (g.S.Site.state c.args.site.now) (g.S.Site.state c.args.site.now) refl

pub returns-in-Err-clause-asks : goal.returns-in-Err-clause-asks
returns-in-Err-clause-asks g c = asks_here g (goal.at.returns-in-Err-clause-asks g c).After-next

pub returns-in-Ok-End-clause-asks : goal.returns-in-Ok-End-clause-asks
returns-in-Ok-End-clause-asks g c = asks_here g (goal.at.returns-in-Ok-End-clause-asks g c).After-next

pub returns-in-Ok-Long-clause-asks : goal.returns-in-Ok-Long-clause-asks
returns-in-Ok-Long-clause-asks g c = asks_here g (goal.at.returns-in-Ok-Long-clause-asks g c).After-next

pub returns-in-Err-BadStream-clause-asks : goal.returns-in-Err-BadStream-clause-asks
returns-in-Err-BadStream-clause-asks g c = asks_here g (goal.at.returns-in-Err-BadStream-clause-asks g c).After-next

pub returns-in-Err-Memory-clause-asks : goal.returns-in-Err-Memory-clause-asks
returns-in-Err-Memory-clause-asks g c = asks_here g (goal.at.returns-in-Err-Memory-clause-asks g c).After-next

pub returns-in-Ok-End-clause-archive : goal.returns-in-Ok-End-clause-archive
returns-in-Ok-End-clause-archive g c honest =
    let inv = c.loop-number.invariant in
    let now = g.S.Site.state c.loop-number.site in
    let lines = (inv.heard honest).0 in
    let h = (inv.heard honest).1 in
    let hears = hears_as _ heard.End _ _ _ _ _ (c.in-Ok-End.ensures.heard (stays_honest _ _ inv.preserves honest) (inv.ended honest)) c.in-Ok-End.field-0-is in
    heard_all c.args.pages _ (to_hear c.loop-number.source now) lines c.loop-number.number c.loop-number.replay h c.commits.result hears.0 (c.commits.ensures c.args.pages h.mid h.popped h.stands)
    (few_octets _ c.loop-number.source now inv.source hears.0 (inv.all honest))

pub returns-in-Ok-Long-clause-cause : goal.returns-in-Ok-Long-clause-cause
returns-in-Ok-Long-clause-cause g c honest =
    let inv = c.loop-number.invariant in
    let now = g.S.Site.state c.loop-number.site in
    let lines = (inv.heard honest).0 in
    let h = (inv.heard honest).1 in
    let hears = hears_as _ heard.Long _ _ _ _ _ (c.in-Ok-Long.ensures.heard (stays_honest _ _ inv.preserves honest) (inv.ended honest)) c.in-Ok-Long.field-0-is in
    bad_here c.args.pages _ (to_hear c.loop-number.source now) lines c.loop-number.number c.loop-number.replay h hears.line hears.behind hears.is_first
    (λ after is. too_long c.args.pages hears.line h.mid after hears.many is)

pub returns-in-Err-BadStream-clause-cause : goal.returns-in-Err-BadStream-clause-cause
returns-in-Err-BadStream-clause-cause g c honest =
    let inv = c.loop-number.invariant in
    let now = g.S.Site.state c.loop-number.site in
    let next = g.S.Site.state c.next.new.site in
    let honest-now = stays_honest _ _ inv.preserves honest in
    let lines = (inv.heard honest).0 in
    let h = (inv.heard honest).1 in
    let hears = hears_as _ heard.Line _ _ _ _ _ (c.in-Ok-Line.ensures.heard honest-now (inv.ended honest)) c.in-Ok-Line.field-0-is in
    bad_here c.args.pages _ (to_hear c.loop-number.source now) lines c.loop-number.number c.loop-number.replay h c.next.new.line.items _
    (first_line c.next.new.line.items _ (to_hear c.next.new.self next) _ _ hears (nothing_left c.next.new.self next c.next.ensures.source (c.in-Ok-Line.ensures.ended honest-now (inv.ended honest))))
    (λ after is. c.in-Err-BadStream.ensures.bad c.args.pages h.mid h.popped h.stands (ap Err c.in-Err-BadStream.field-0-is) after
    (subst (λ l. AfterLine c.args.pages l h.mid after) (sym c.as_slice.ensures.value) is))

pub loop-number-preserved : goal.loop-number-preserved
loop-number-preserved g c =
    let inv = c.loop-number.invariant in
    let now = g.S.Site.state c.loop-number.site in
    let next = g.S.Site.state c.next.new.site in
    record {
      preserves = goes_in_sequence _ _ _ inv.preserves c.next.ensures.preserves;
      faults = c.in-Ok-Line.ensures.faults ∙ inv.faults;
      source = c.next.ensures.source;
      same = λ honest. hears_then _ _ _ (inv.same honest) (c.next.ensures.same (stays_honest _ _ inv.preserves honest));
      ended = λ honest. c.in-Ok-Line.ensures.ended (stays_honest _ _ inv.preserves honest) (inv.ended honest);
      all = λ honest. c.in-Ok-Line.ensures.count (stays_honest _ _ inv.preserves honest) ∙ inv.all honest;
      heard = λ honest.
          let honest-now = stays_honest _ _ inv.preserves honest in
          let lines = (inv.heard honest).0 in
          let h = (inv.heard honest).1 in
          let hears = hears_as _ heard.Line _ _ _ _ _ (c.in-Ok-Line.ensures.heard honest-now (inv.ended honest)) c.in-Ok-Line.field-0-is in
          let behind = c.in-Ok-hear_line.ensures.accepted c.args.pages h.mid h.popped h.stands in (
            lines ++ c.next.new.line.items ∷ [],
            heard_more c.args.pages _ (to_hear c.loop-number.source now) lines c.loop-number.number c.loop-number.replay h c.next.new.line.items (to_hear c.next.new.self next) _ _ behind.0 behind.0.nets c.hear_line.new.replay hears
                (nothing_left c.next.new.self next c.next.ensures.source (c.in-Ok-Line.ensures.ended honest-now (inv.ended honest)))
                (subst (λ l. AfterLine c.args.pages l h.mid behind.0) c.as_slice.ensures.value behind.1) behind.2,
            cut_more lines c.next.new.line.items c.loop-number.source c.next.new.self (g.S.Site.state c.args.site.now) now next (inv.heard honest).2 hears (c.next.ensures.takes honest-now (inv.ended honest)).count,
          );
      asks = asks_here g (goal.at.loop-number-preserved g c).After-next;
    }

pub returns-clause-cause : goal.returns-clause-cause
returns-clause-cause g c honest =
    let inv = c.loop-number.invariant in
    absurd (few_lines c.args.pages _ (inv.heard honest).0 c.loop-number.number c.loop-number.replay c.loop-number.source (g.S.Site.state c.loop-number.site) inv.source (inv.heard honest).1 (inv.all honest)
    (omega (arith, c.loop-number-test.false, c.loop-number.auto.number-end)))
