use Rattle.std.proofs.Common.{List, ℕ, [], ◌∷◌, ap, ◌∙◌, arith, subst}
use Rattle.site.proofs.Laws.{stays_honest}
use Rattle.trace_report.specs.Hearing.{to_hear, IsSaid}
use Rattle.trace_report.proofs.Heard.{some_octet, line_heard, last_heard, long_heard, octet_is, none_is, then_rest}
use Rattle.trace_report.proofs.trace.Trace.next.Goals as goal

pub returns-in-None-clause-heard : goal.returns-in-None-clause-heard
returns-in-None-clause-heard g c honest ended =
    let now = g.S.Site.state c.loop-octet.site in
    let honest-now = stays_honest (g.S.Site.state c.args.site.now) now c.loop-octet.invariant.preserves honest in
    let end = none_is c.in-Ok.octet _ _ (c.in-Ok.ensures.octet honest-now (c.loop-octet.invariant.ended honest ended)) c.in-None.is in
    last_heard c.said_by.result _ _ _ (then_rest _ _ [] _ (c.loop-octet.invariant.so_far honest ended) end.0) end.1
    (some_octet _ c.is_empty.result c.is_empty.ensures c.if-is_empty.false) (subst (λ (l : List ℕ). IsSaid c.said_by.result l) c.as_slice.ensures.value c.said_by.ensures)

pub returns-then-octet-eq10-clause-heard : goal.returns-then-octet-eq10-clause-heard
returns-then-octet-eq10-clause-heard g c honest ended =
    let now = g.S.Site.state c.loop-octet.site in
    let honest-now = stays_honest (g.S.Site.state c.args.site.now) now c.loop-octet.invariant.preserves honest in
    let rest = to_hear c.next_octet.new.self (g.S.Site.state c.next_octet.new.site) in
    let octet = octet_is c.in-Ok.octet c.in-Some.octet _ _ (c.in-Ok.ensures.octet honest-now (c.loop-octet.invariant.ended honest ended)) c.in-Some.is in
    line_heard c.said_by-then-octet-eq10.result _ rest _
    (then_rest _ _ (10 ∷ rest) _ (c.loop-octet.invariant.so_far honest ended) (octet ∙ ap (λ x. x ∷ rest) c.if-octet-eq10.true))
    (subst (λ (l : List ℕ). IsSaid c.said_by-then-octet-eq10.result l) c.as_slice-then-octet-eq10.ensures.value c.said_by-then-octet-eq10.ensures)

pub returns-clause-heard : goal.returns-clause-heard
returns-clause-heard g c honest ended =
    let count = c.loop-octet.invariant.count in
    long_heard _ _ _ (c.loop-octet.invariant.so_far honest ended) (omega (arith, count, c.loop-octet-test.false, c.loop-octet.auto._octet-end))
