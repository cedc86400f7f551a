use Rattle.face.proofs.Names.{◌≡◌, [], ◌++◌, ◌∙◌, ℕ, List, length, ap, subst, IsGood, LoadTellsDone, load_run, summary_of, summary_text, State, stays_honest, EachMoment, HandsRest, TellsOnly, TellsPart, Geometry}
use Rattle.face.proofs.Going.{ends_as, ends_told, ends_untold}
use Rattle.face.proofs.LoadFaults.{stopped_before, summary_lost, summed_up, tells_opening, tells_summary}
use Rattle.face.proofs.load.load_and_tell.Given.{Over}
use Rattle.face.proofs.load.load_and_tell.Goals.{After-tell_all}
use Rattle.face.proofs.load.load_and_tell.Goals as goal

pub returns-in-Err-clause-works : goal.returns-in-Err-clause-works
returns-in-Err-clause-works g c geometry opening good =
    let run = load_run geometry opening c.args.load.now in
    stopped_before c.args.load.now.pool run (summary_text run c.args.load.now) (g.S.Site.state c.args.site.now) (g.S.Site.state c.run_load.new.site) c.in-Err.halt (c.in-Err.ensures.works geometry opening good)

pub returns-in-Ok-tell_all-clause-works : goal.returns-in-Ok-tell_all-clause-works
returns-in-Ok-tell_all-clause-works g c geometry opening good =
    let old = g.S.Site.state c.args.site.now in
    let mid = g.S.Site.state c.run_load.new.site in
    let new = g.S.Site.state c.tell_all.new.site in
    let load = c.args.load.now in
    let run = load_run geometry opening load in
    let counted = c.in-Ok.ensures.counts geometry opening good in
    let text : c.as_slice.result.now ≡ summary_text run load = c.as_slice.ensures.value ∙ c.summary_line.ensures ∙ (λ i. summary_of load.count (counted.committed_is i) (counted.checkpoints_are i) (counted.found_is i)) in
    let honest = stays_honest old mid c.run_load.ensures.ends.preserves good.honest in
    summed_up load.pool run (summary_text run load) old c.in-Ok.counts mid new (c.in-Ok.ensures.works geometry opening good)
    (subst (λ (t : List ℕ). EachMoment mid new (TellsPart t mid)) text (c.tell_all.ensures.any_moment honest)) (c.tell_all.ensures.same honest) c.tell_all.ensures.reads _
    (c.in-Ok-tell_all.ensures.told honest ∙ ap (λ (t : List ℕ). mid.told ++ t) text) (subst (λ (t : List ℕ). TellsOnly (length t) mid new) text (c.in-Ok-tell_all.ensures.tells_only honest))

pub returns-in-Err-tell_all-clause-works : goal.returns-in-Err-tell_all-clause-works
returns-in-Err-tell_all-clause-works g c geometry opening good =
    let old = g.S.Site.state c.args.site.now in
    let mid = g.S.Site.state c.run_load.new.site in
    let new = g.S.Site.state c.tell_all.new.site in
    let load = c.args.load.now in
    let run = load_run geometry opening load in
    let counted = c.in-Ok.ensures.counts geometry opening good in
    let text : c.as_slice.result.now ≡ summary_text run load = c.as_slice.ensures.value ∙ c.summary_line.ensures ∙ (λ i. summary_of load.count (counted.committed_is i) (counted.checkpoints_are i) (counted.found_is i)) in
    let honest = stays_honest old mid c.run_load.ensures.ends.preserves good.honest in
    summary_lost load.pool run (summary_text run load) old c.in-Ok.counts mid new (c.in-Ok.ensures.works geometry opening good)
    (subst (λ (t : List ℕ). EachMoment mid new (TellsPart t mid)) text (c.tell_all.ensures.any_moment honest)) (c.tell_all.ensures.same honest) c.tell_all.ensures.reads

pub returns-in-Err-clause-ends : goal.returns-in-Err-clause-ends
returns-in-Err-clause-ends g c = ends_as c.in-Err.halt _ _ c.in-Err.ensures.ends

pub returns-in-Ok-tell_all-clause-ends : goal.returns-in-Ok-tell_all-clause-ends
returns-in-Ok-tell_all-clause-ends g c = ends_told c.in-Ok.counts _ _ _ c.in-Ok.ensures.ends c.tell_all.ensures.preserves _ c.in-Ok-tell_all.ensures.faults

pub returns-in-Err-tell_all-clause-ends : goal.returns-in-Err-tell_all-clause-ends
returns-in-Err-tell_all-clause-ends g c = ends_untold c.in-Ok.counts _ _ _ c.in-Ok.ensures.ends c.tell_all.ensures.preserves c.in-Err-tell_all.ensures.faults c.in-Err-tell_all.ensures.cause

pub returns-in-Err-clause-tells : goal.returns-in-Err-clause-tells
returns-in-Err-clause-tells g c geometry opening good =
    let run = load_run geometry opening c.args.load.now in
    let new = g.S.Site.state c.run_load.new.site in
    tells_opening c.args.load.now.pool run (summary_text run c.args.load.now) (g.S.Site.state c.args.site.now) new new (c.run_load.ensures.opens geometry opening good)

-- The summary is told, or a front of it.
module _ (g : Over) (c : After-tell_all g) (geometry : Geometry) (opening : State) (good : IsGood geometry opening (g.S.Site.state c.args.site.now)) where
  done : EachMoment (g.S.Site.state c.args.site.now) (g.S.Site.state c.tell_all.new.site) (LoadTellsDone c.args.load.now.pool (load_run geometry opening c.args.load.now) (summary_text (load_run geometry opening c.args.load.now) c.args.load.now) [] (g.S.Site.state c.args.site.now))
  done =
      let old = g.S.Site.state c.args.site.now in
      let mid = g.S.Site.state c.run_load.new.site in
      let new = g.S.Site.state c.tell_all.new.site in
      let load = c.args.load.now in
      let run = load_run geometry opening load in
      let counted = c.in-Ok.ensures.counts geometry opening good in
      let text : c.as_slice.result.now ≡ summary_text run load = c.as_slice.ensures.value ∙ c.summary_line.ensures ∙ (λ i. summary_of load.count (counted.committed_is i) (counted.checkpoints_are i) (counted.found_is i)) in
      let honest = stays_honest old mid c.run_load.ensures.ends.preserves good.honest in
      tells_summary load.pool run (summary_text run load) old mid new c.in-Ok.counts (c.in-Ok.ensures.works geometry opening good) (c.run_load.ensures.opens geometry opening good)
      (subst (λ (t : List ℕ). EachMoment mid new (TellsPart t mid)) text (c.tell_all.ensures.any_moment honest))
      (subst (λ (t : List ℕ). EachMoment mid new (HandsRest t mid)) text (c.tell_all.ensures.hands honest))

pub returns-in-Ok-tell_all-clause-tells : goal.returns-in-Ok-tell_all-clause-tells
returns-in-Ok-tell_all-clause-tells g c = done g (goal.at.returns-in-Ok-tell_all-clause-tells g c).After-tell_all

pub returns-in-Err-tell_all-clause-tells : goal.returns-in-Err-tell_all-clause-tells
returns-in-Err-tell_all-clause-tells g c = done g (goal.at.returns-in-Err-tell_all-clause-tells g c).After-tell_all

pub returns-in-Err-clause-judged : goal.returns-in-Err-clause-judged
returns-in-Err-clause-judged g c honest = tt

pub returns-in-Ok-tell_all-clause-judged : goal.returns-in-Ok-tell_all-clause-judged
returns-in-Ok-tell_all-clause-judged g c honest = c.in-Ok.ensures.judged honest

pub returns-in-Err-tell_all-clause-judged : goal.returns-in-Err-tell_all-clause-judged
returns-in-Err-tell_all-clause-judged g c honest = tt
