use Rattle.std.proofs.Common.{◌∙◌, arith}
use Rattle.site.proofs.Laws.{stays_honest, goes_nowhere, goes_in_sequence}
use Rattle.trace_report.specs.declared.trace.Heard.TheVariants as heard
use Rattle.trace_report.specs.Hearing.{to_hear}
use Rattle.trace_report.proofs.Heard.{hears_then, hears_as, nothing_pending}
use Rattle.trace_report.proofs.Cut.{not_yet, served_more, served_all, stopped, overfull}
use Rattle.trace_report.proofs.run.run_trace.Goals as goal

pub loop-number-init : goal.loop-number-init
loop-number-init g c = grind (arith, goes_nowhere, not_yet, nothing_pending)

pub returns-in-Ok-End-clause-report : goal.returns-in-Ok-End-clause-report
returns-in-Ok-End-clause-report g c honest =
    let s = c.loop-number.invariant.served honest in
    let hears = hears_as _ _ _ _ (c.in-Ok-End.ensures.heard (stays_honest _ _ c.loop-number.invariant.preserves honest) (c.loop-number.invariant.ended honest)) c.in-Ok-End.field-0-is in
    let few = c.loop-number.invariant.few in (
      s.touches,
      served_all c.args.groups c.args.pool _ _ _ c.loop-number.machines s (to_hear c.next.new.self (g.S.Site.state c.next.new.site)) hears few,
      c.in-Ok-report_of.ensures.report c.args.groups c.args.pool s.touches s.served,
    )

pub returns-in-Ok-Wrong-clause-cause : goal.returns-in-Ok-Wrong-clause-cause
returns-in-Ok-Wrong-clause-cause g c honest =
    let now = g.S.Site.state c.loop-number.site in
    let s = c.loop-number.invariant.served honest in
    let hears = hears_as _ _ _ _ (c.in-Ok-Wrong.ensures.heard (stays_honest _ _ c.loop-number.invariant.preserves honest) (c.loop-number.invariant.ended honest)) c.in-Ok-Wrong.field-0-is in
    stopped c.args.groups c.args.pool _ (to_hear c.loop-number.trace now) _ c.loop-number.machines s (to_hear c.next.new.self (g.S.Site.state c.next.new.site)) hears c.loop-number.invariant.few

pub returns-then-number-eq-LINES-clause-cause : goal.returns-then-number-eq-LINES-clause-cause
returns-then-number-eq-LINES-clause-cause g c honest =
    let now = g.S.Site.state c.loop-number.site in
    let s = c.loop-number.invariant.served honest in
    let hears = hears_as _ _ _ _ (c.in-Ok-Touch.ensures.heard (stays_honest _ _ c.loop-number.invariant.preserves honest) (c.loop-number.invariant.ended honest)) c.in-Ok-Touch.field-0-is in
    overfull c.args.groups c.args.pool _ (to_hear c.loop-number.trace now) _ c.loop-number.machines s (to_hear c.next.new.self (g.S.Site.state c.next.new.site)) _ _ hears c.if-number-eq-LINES.true

pub loop-number-preserved : goal.loop-number-preserved
loop-number-preserved g c =
    let now = g.S.Site.state c.loop-number.site in
    let few = c.loop-number.invariant.few in
    record {
      preserves = goes_in_sequence _ _ _ c.loop-number.invariant.preserves c.next.ensures.takes.preserves;
      reads = λ dev. c.next.ensures.takes.reads dev ∙ c.loop-number.invariant.reads dev;
      faults = c.in-Ok-Touch.ensures.takes.faults ∙ c.loop-number.invariant.faults;
      usable = c.next.ensures.takes.usable;
      made = c.in-Ok-touch.ensures.made c.loop-number.number c.loop-number.invariant.made;
      few = omega (arith, few, c.if-number-eq-LINES.false);
      same = λ honest. hears_then _ _ _ (c.loop-number.invariant.same honest) (c.next.ensures.takes.same (stays_honest _ _ c.loop-number.invariant.preserves honest));
      ended = λ honest. c.in-Ok-Touch.ensures.takes.ended (stays_honest _ _ c.loop-number.invariant.preserves honest) (c.loop-number.invariant.ended honest);
      served = λ honest.
          let s = c.loop-number.invariant.served honest in
          let hears = hears_as _ _ _ _ (c.in-Ok-Touch.ensures.heard (stays_honest _ _ c.loop-number.invariant.preserves honest) (c.loop-number.invariant.ended honest)) c.in-Ok-Touch.field-0-is in
          served_more _ _ _ (to_hear c.loop-number.trace now) _ c.loop-number.machines s _ _ _ _ hears
          (c.in-Ok-touch.ensures.served c.args.groups c.args.pool s.touches s.served);
    }

pub returns-in-Err-clause-same : goal.returns-in-Err-clause-same
returns-in-Err-clause-same g c honest = grind (arith, hears_then, stays_honest)

pub returns-in-Err-clause-preserves : goal.returns-in-Err-clause-preserves
returns-in-Err-clause-preserves g c = grind (arith, goes_in_sequence)

pub returns-in_default-report_of-clause-preserves : goal.returns-in_default-report_of-clause-preserves
returns-in_default-report_of-clause-preserves g c = grind (arith, goes_in_sequence)

pub returns-in-Ok-End-clause-preserves : goal.returns-in-Ok-End-clause-preserves
returns-in-Ok-End-clause-preserves g c = grind (arith, goes_in_sequence)

pub returns-in-Ok-Wrong-clause-preserves : goal.returns-in-Ok-Wrong-clause-preserves
returns-in-Ok-Wrong-clause-preserves g c = grind (arith, goes_in_sequence)

pub returns-then-number-eq-LINES-clause-preserves : goal.returns-then-number-eq-LINES-clause-preserves
returns-then-number-eq-LINES-clause-preserves g c = grind (arith, goes_in_sequence)

pub returns-in_default-touch-clause-preserves : goal.returns-in_default-touch-clause-preserves
returns-in_default-touch-clause-preserves g c = grind (arith, goes_in_sequence)
