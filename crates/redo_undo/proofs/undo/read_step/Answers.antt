use Rattle.redo_undo.proofs.Names.{ℕ, sym, ap, subst, ◌∙◌, arith, next_is_late, LogRecord, found_now, IsStepOf, Geometry}
use Rattle.std.proofs.Common.{Err}
use Rattle.redo_undo.proofs.Compensations.{is_there, read_is, steps}
use Rattle.redo_undo.proofs.Lasts.{begin_kept}
use Rattle.redo_undo.proofs.undo.read_step.Goals as goal

pub returns-then-at-clause-readable : goal.returns-then-at-clause-readable
returns-then-at-clause-readable g c pages newest records history x e rest sizes h unfinished at split = λ same.
    let early = unfinished.early in
    absurd (omega (arith, early, at.last, at.next, c.if-at.true))

pub returns-then-at-kept-clause-readable : goal.returns-then-at-kept-clause-readable
returns-then-at-kept-clause-readable g c pages newest records history x e rest sizes h unfinished at split = λ same.
    let late = next_is_late records x unfinished in
    let begun = begin_kept c.args.log.now pages (g.S.Site.state c.args.site.now) newest records history h x unfinished in
    absurd (omega (arith, late, begun, h.log_holds.kept, at.next, c.kept.ensures, c.if-at-kept.true))

pub returns-in-Err-clause-readable : goal.returns-in-Err-clause-readable
returns-in-Err-clause-readable g c pages newest records history x e rest sizes h unfinished at split = λ same.
    is_there c.args.log.now pages (g.S.Site.state c.args.site.now) newest records history h x unfinished c.args.at.now.next e rest split at.next
    (c.in-Err.ensures.foreign (ap Err same) _ (found_now h) h.log_holds.ready.records (omega arith))

pub returns-in-Some-clause-step : goal.returns-in-Some-clause-step
returns-in-Some-clause-step g c pages newest records history x e rest sizes h unfinished at split =
    let same = read_is c.args.log.now pages (g.S.Site.state c.args.site.now) newest records history h x unfinished c.args.at.now.next c.in-Ok.rec e rest split at.next
    (c.in-Ok.ensures.found _ (found_now h) h.log_holds.ready.records (omega arith)) in
    subst (λ (rec : LogRecord). IsStepOf c.args.at.now c.args.log.now.geometry.pages rec c.in-Some.step) (sym same)
    (subst (λ (n : ℕ). IsStepOf c.args.at.now n c.in-Ok.rec c.in-Some.step) (ap (λ (k : Geometry). k.pages) c.geometry.ensures) c.in-Some.ensures.some)

-- from each record of its chain undoing goes on
pub returns-in-None-clause-readable : goal.returns-in-None-clause-readable
returns-in-None-clause-readable g c pages newest records history x e rest sizes h unfinished at split = λ foreign.
    let site = g.S.Site.state c.args.site.now in
    let same = read_is c.args.log.now pages site newest records history h x unfinished c.args.at.now.next c.in-Ok.rec e rest split at.next
    (c.in-Ok.ensures.found _ (found_now h) h.log_holds.ready.records (omega arith)) in
    let step = steps c.args.log.now pages site newest records history h x unfinished c.args.at.now e rest at split in
    c.in-None.ensures.none step.0 (subst (λ (rec : LogRecord). IsStepOf c.args.at.now c.geometry.result.pages rec step.0) same
    (subst (λ (n : ℕ). IsStepOf c.args.at.now n e.rec step.0) (sym (ap (λ (k : Geometry). k.pages) (c.geometry.ensures ∙ sizes))) step.1))
