use Rattle.image_check.proofs.Names.{◌≡◌, subst, ◌+◌, ◌-◌, ◌*◌, ◌≤◌, arith, Result, Ok, IfOk, log_checked, pages_checked, IsVerdictOn, kept_blocks, by_more, by_then, answers_as, log_looks, page_looks, IsFormedOr, MayBeRead, FailsFirst, Found, Place, State, Image, Geometry}
use Rattle.image_check.proofs.Decisions.{fails_kept, meets_both}
use Rattle.image_check.proofs.verdict.check_image.Goals as goal

pub returns-then-not-rule_kept-clause-verdict : goal.returns-then-not-rule_kept-clause-verdict
returns-then-not-rule_kept-clause-verdict g c honest =
    let s0 : State = g.S.Site.state c.args.site.now in
    let s1 : State = g.S.Site.state c.find_formed.new.site in
    let same : s1.image ≡ s0.image = (c.in_ok-found.ensures.reads.same honest).image in
    let is : IsFormedOr (Ok c.in-Ok.found) s1 = subst (λ (o : Result Found Place). IsFormedOr o s1) c.in-Ok.is (c.in_ok-found.ensures.formed honest) in
    subst (FailsFirst 2) same (fails_kept c.in-Ok.found s1 c.rule_kept.result is.1 (c.rule_kept.ensures.kept s1 is.0.log) c.if-not-rule_kept.true)

pub returns-clause-verdict : goal.returns-clause-verdict
returns-clause-verdict g c honest =
    let s0 : State = g.S.Site.state c.args.site.now in
    let s1 : State = g.S.Site.state c.find_formed.new.site in
    let same : s1.image ≡ s0.image = (c.in_ok-found.ensures.reads.same honest).image in
    let is : IsFormedOr (Ok c.in-Ok.found) s1 = subst (λ (o : Result Found Place). IsFormedOr o s1) c.in-Ok.is (c.in_ok-found.ensures.formed honest) in
    let both = meets_both c.in-Ok.found s1 is.0 is.1 ((c.rule_kept.ensures.kept s1 is.0.log).0 c.if-not-rule_kept.false) in
    subst (λ (image : Image). IfOk c.judge_found.result (λ verdict. IsVerdictOn image verdict)) same
    (answers_as c.judge_found.result _ (λ verdict. IsVerdictOn s1.image verdict) (λ verdict says. says both.0 both.1) c.judge_found.ensures.says)

pub returns-in_err-found-clause-looks : goal.returns-in_err-found-clause-looks
returns-in_err-found-clause-looks g c = by_more log_looks page_looks log_checked pages_checked _ _ (λ x. omega arith) (λ x. omega arith) c.find_formed.ensures.looks

pub returns-in-Err-clause-looks : goal.returns-in-Err-clause-looks
returns-in-Err-clause-looks g c = by_more log_looks page_looks log_checked pages_checked _ _ (λ x. omega arith) (λ x. omega arith) c.find_formed.ensures.looks

pub returns-then-not-rule_kept-clause-looks : goal.returns-then-not-rule_kept-clause-looks
returns-then-not-rule_kept-clause-looks g c = by_more log_looks page_looks log_checked pages_checked _ _ (λ x. omega arith) (λ x. omega arith) c.find_formed.ensures.looks

pub returns-clause-looks : goal.returns-clause-looks
returns-clause-looks g c =
    let found = c.in-Ok.found in
    let sizes : Geometry = found.log.geometry in
    let s1 : State = g.S.Site.state c.find_formed.new.site in
    let may : MayBeRead found s1 = subst (λ (o : Result Found Place). IfOk o (λ found. MayBeRead found s1)) c.in-Ok.is c.in_ok-found.ensures.may_read in
    let live : found.log.ring.hi ≤ found.master.kept + (sizes.blocks - 1) = c.rule_kept.ensures.live c.if-not-rule_kept.false in
    by_then log_looks page_looks log_checked pages_checked sizes (6 * kept_blocks found) (22 * sizes.groups + 4 * sizes.pages) _ _ _ c.in_ok-found.ensures.reads.preserves may.may_read.sizes
    (omega (arith, live)) (omega arith) c.find_formed.ensures.looks c.judge_found.ensures.few
