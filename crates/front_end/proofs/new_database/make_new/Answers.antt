use Rattle.std.proofs.Common.{ap, inl, inr, refl, ◌∙◌, sym, rules, arith}
use Rattle.site.specs.Faults.{with_output_fault}
use Rattle.site.proofs.Laws.{stays_honest}
use Rattle.front_end.specs.New.{ready_line, unfit_line}
use Rattle.front_end.proofs.NewLaws.{answered, unfit_stays, not_done}
use Rattle.front_end.proofs.Firsts.{first_none, first_unfit, first_untold}
use Rattle.front_end.proofs.new_database.make_new.Goals as goal

pub returns-in-Ok-tell_ready-clause-new : goal.returns-in-Ok-tell_ready-clause-new
returns-in-Ok-tell_ready-clause-new g c =
    let old = g.S.Site.state c.args.site.now in
    let mid = g.S.Site.state c.test_fit.new.site in
    answered c.args.geometry.now old mid (g.S.Site.state c.tell_ready.new.site) (ready_line c.args.geometry.now) 0 c.tell_ready.result c.test_fit.ensures.preserves c.test_fit.ensures.same c.test_fit.ensures.unread c.test_fit.ensures.few c.tell_ready.ensures
    (inr (inl (refl, refl, c.in-Ok.ensures.fit))) (λ honest done. c.in-Ok-tell_ready.ensures.told (stays_honest old mid c.test_fit.ensures.preserves honest))

pub returns-in-Err-tell_ready-clause-new : goal.returns-in-Err-tell_ready-clause-new
returns-in-Err-tell_ready-clause-new g c =
    let old = g.S.Site.state c.args.site.now in
    let mid = g.S.Site.state c.test_fit.new.site in
    answered c.args.geometry.now old mid (g.S.Site.state c.tell_ready.new.site) (ready_line c.args.geometry.now) 6 c.tell_ready.result c.test_fit.ensures.preserves c.test_fit.ensures.same c.test_fit.ensures.unread c.test_fit.ensures.few c.tell_ready.ensures
    (inr (inr (inl (refl, refl, c.in-Ok.ensures.fit, search rules)))) (λ honest done. absurd (omega (arith, done)))

pub returns-in-Err-clause-new : goal.returns-in-Err-clause-new
returns-in-Err-clause-new g c =
    let old = g.S.Site.state c.args.site.now in
    let mid = g.S.Site.state c.test_fit.new.site in
    let new = g.S.Site.state c.tell_unfit.new.site in
    answered c.args.geometry.now old mid new (unfit_line c.in-Err.unfit) c.status.result c.tell_unfit.result c.test_fit.ensures.preserves c.test_fit.ensures.same c.test_fit.ensures.unread c.test_fit.ensures.few c.tell_unfit.ensures
    (inl (c.in-Err.unfit, c.status.ensures, refl, unfit_stays c.in-Err.unfit c.args.geometry.now old mid new c.in-Err.ensures.unfit c.tell_unfit.ensures.preserves))
    (λ honest done. absurd (not_done c.in-Err.unfit (sym c.status.ensures ∙ done)))

pub returns-in-Ok-tell_ready-clause-first : goal.returns-in-Ok-tell_ready-clause-first
returns-in-Ok-tell_ready-clause-first g c = first_none _ _ (c.in-Ok-tell_ready.ensures.faults ∙ c.in-Ok.ensures.faults)

pub returns-in-Err-tell_ready-clause-first : goal.returns-in-Err-tell_ready-clause-first
returns-in-Err-tell_ready-clause-first g c = first_untold _ _ (c.in-Err-tell_ready.ensures.faults ∙ ap with_output_fault c.in-Ok.ensures.faults)

pub returns-in-Err-clause-first : goal.returns-in-Err-clause-first
returns-in-Err-clause-first g c =
    first_unfit (Unit {0}) c.in-Err.unfit c.status.result (g.S.Site.state c.args.site.now) (g.S.Site.state c.test_fit.new.site) (g.S.Site.state c.tell_unfit.new.site) c.tell_unfit.result c.status.ensures c.in-Err.ensures.faults c.tell_unfit.ensures.faults
