use Rattle.image_check.proofs.Names.{◌≡◌, ◌*◌, ◌≤◌, inl, inr, ℕ, Option, Some, true≢false, refl, sym, ap, ◌∙◌, subst, arith, ◌+◌, cases_eq, IfSome, version_on, HasContents, few_then, AreVersions, versions_on, value_of, looks_then, looks_answered, State, Image, Geometry}
use Rattle.std.proofs.Common.{is_some, Ok}
use Rattle.image_check.proofs.ShownOnes.{versions_later}
use Rattle.image_check.proofs.ValuesCounted.{values_among, page_more, all_pages}
use Rattle.image_check.proofs.Walking.{may_later}
use Rattle.image_check.proofs.values.Logged.count_pages.Goals as goal

pub returns-in-Ok-None-clause-shown : goal.returns-in-Ok-None-clause-shown
returns-in-Ok-None-clause-shown g c finds versions =
    let geometry = c.args.found.now.log.geometry in
    let page : ℕ = c.loop-page.page in
    let contents = c.args.self.now.expected.contents in
    let reads = c.loop-page.invariant.reads in
    let same = (reads.same finds.honest).image in
    let says = c.in-Ok-None.ensures.shown (versions_later reads finds) (subst (AreVersions geometry) (sym same) versions) in (
      λ wrong. absurd (true≢false (sym wrong)),
      λ all. absurd (true≢false (sym (says.1 (subst (λ (image : Image). HasContents contents page (version_on geometry image page)) (sym same) (all page (omega (arith, ap (λ (k : Geometry). k.pages) c.geometry-page-end.ensures, c.loop-page-test.true))))) ∙ ap is_some c.in-Ok-None.field-0-is)),
    )

pub loop-page-preserved : goal.loop-page-preserved
loop-page-preserved g c =
    let geometry = c.args.found.now.log.geometry in
    let old : State = g.S.Site.state c.args.site.now in
    let now : State = g.S.Site.state c.loop-page.site in
    let reads = c.loop-page.invariant.reads in
    let page : ℕ = c.loop-page.page in
    let contents = c.args.self.now.expected.contents in
    let some : c.in-Ok-Some.field-0 ≡ Some c.in-Ok-Some.more = c.in-Ok-Some.field-0-is in
    record {
      may = may_later c.in-Ok-Some.ensures.reads c.loop-page.invariant.may;
      have = λ finds versions n below. elim (cases_eq n page) [
        | inl here ↦
            let same : now.image ≡ old.image = (reads.same finds.honest).image in
            let says = c.in-Ok-Some.ensures.shown (versions_later reads finds) (subst (AreVersions geometry) (sym same) versions) in
            let shown : HasContents contents page (version_on geometry old.image page) = subst (λ (image : Image). HasContents contents page (version_on geometry image page)) same (says.0 (ap is_some some)) in
            subst (λ (k : ℕ). HasContents contents k (version_on geometry old.image k)) (sym here) shown
        | inr other ↦ c.loop-page.invariant.have finds versions n (omega (arith, below, other))
      ];
      counted = λ log finds versions are.
          let same : now.image ≡ old.image = (reads.same finds.honest).image in
          let more = subst (λ (o : Option ℕ). IfSome o (λ count. count ≡ values_among (value_of log (versions_on geometry now.image)) (32 * page) 32)) some
          (c.in-Ok-Some.ensures.values log (versions_later reads finds) (subst (AreVersions geometry) (sym same) versions) are) in
          page_more (value_of log (versions_on geometry old.image)) page c.loop-page.count c.in-Ok-Some.more (c.loop-page.invariant.counted log finds versions are)
          (more ∙ ap (λ (image : Image). values_among (value_of log (versions_on geometry image)) (32 * page) 32) same);
      few = let before = c.loop-page.invariant.few in let more = subst (λ (o : Option ℕ). IfSome o (λ count. count ≤ 32)) some c.in-Ok-Some.ensures.few in omega (arith, before, more);
      most = omega (arith, ap (λ (k : Geometry). k.pages) c.geometry-page-end.ensures, c.loop-page-test.true);
      looks = few_then 0 page 0 1 0 (page + 1) old now (g.S.Site.state c.count_page.new.site) (omega arith) (omega arith) c.loop-page.invariant.looks c.in-Ok-Some.ensures.looks;
      reads = looks_then tt (Ok tt) old now (g.S.Site.state c.count_page.new.site) reads (looks_answered c.in-Ok-Some.field-0 tt now (g.S.Site.state c.count_page.new.site) c.in-Ok-Some.ensures.reads);
    }

pub returns-clause-shown : goal.returns-clause-shown
returns-clause-shown g c finds versions = (
  λ yes number below. c.loop-page.invariant.have finds versions number (omega (arith, below, ap (λ (k : Geometry). k.pages) c.geometry-page-end.ensures, c.loop-page-test.false)),
  λ all. refl,
)

pub returns-clause-values : goal.returns-clause-values
returns-clause-values g c log finds versions are =
    let most = c.loop-page.invariant.most in
    all_pages c.args.found.now.log.geometry (g.S.Site.state c.args.site.now).image log c.loop-page.count c.loop-page.page (omega (arith, most, ap (λ (k : Geometry). k.pages) c.geometry-page-end.ensures, c.loop-page-test.false)) (c.loop-page.invariant.counted log finds versions are)
