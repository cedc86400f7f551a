use Rattle.image_form.proofs.Names.{rules, ◌≡◌, ◌+◌, inl, inr, ℕ, true≢false, refl, sym, ◌∙◌, subst, arith, cases_eq, version_on, ShowsFrames, AreGroups, stays_honest, State, Image, IsSound}
use Rattle.image_form.proofs.Counts.{few_then}
use Rattle.image_form.proofs.Lasting.{found_later, may_read_later}
use Rattle.image_form.proofs.versions.find_unsound.Goals as goal

pub returns-then-not-stands-clause-versions : goal.returns-then-not-stands-clause-versions
returns-then-not-stands-clause-versions g c honest found groups shows =
    let geometry = c.args.geometry.now in
    let old : State = g.S.Site.state c.args.site.now in
    let now : State = g.S.Site.state c.loop-page.site in
    let reads = c.loop-page.invariant.reads in
    let same : now.image ≡ old.image = (reads.same honest).image in
    let page : ℕ = c.loop-page.page in
    let says = c.in-Ok.ensures.sound (stays_honest old now reads.preserves honest) (found_later c.args.rings.now old now same found) (subst (AreGroups geometry) (sym same) groups) (subst (λ (image : Image). ShowsFrames geometry image c.args.frames.now) (sym same) shows) in (
      λ wrong. absurd (true≢false (sym wrong)),
      λ all. absurd (true≢false (sym (says.1 (subst (λ (image : Image). IsSound (version_on geometry image page)) (sym same) (all page c.loop-page-test.true))) ∙ c.if-not-stands.true)),
    )

pub loop-page-preserved : goal.loop-page-preserved
loop-page-preserved g c =
    let geometry = c.args.geometry.now in
    let old : State = g.S.Site.state c.args.site.now in
    let now : State = g.S.Site.state c.loop-page.site in
    let reads = c.loop-page.invariant.reads in
    let page : ℕ = c.loop-page.page in
    record {
      may_read = may_read_later geometry c.args.rings.now now (g.S.Site.state c.is_sound_version.new.site) c.in-Ok.ensures.reads.preserves c.loop-page.invariant.may_read;
      stand = λ honest found groups shows n below. elim (cases_eq n page) [
        | inl here ↦
            let same : now.image ≡ old.image = (reads.same honest).image in
            let says = c.in-Ok.ensures.sound (stays_honest old now reads.preserves honest) (found_later c.args.rings.now old now same found) (subst (AreGroups geometry) (sym same) groups) (subst (λ (image : Image). ShowsFrames geometry image c.args.frames.now) (sym same) shows) in
            let sound : IsSound (version_on geometry old.image page) = subst (λ (image : Image). IsSound (version_on geometry image page)) same (says.0 c.if-not-stands.false) in
            subst (λ (k : ℕ). IsSound (version_on geometry old.image k)) (sym here) sound
        | inr other ↦ c.loop-page.invariant.stand honest found groups shows n (omega (arith, below, other))
      ];
      looks = few_then 0 page 0 1 0 (page + 1) old now (g.S.Site.state c.is_sound_version.new.site) (omega arith) (omega arith) c.loop-page.invariant.looks c.in-Ok.ensures.looks;
      reads = search rules;
    }

pub returns-clause-versions : goal.returns-clause-versions
returns-clause-versions g c honest found groups shows = (
  λ yes number below. c.loop-page.invariant.stand honest found groups shows number (omega (arith, below, c.loop-page-test.false)),
  λ all. refl,
)
