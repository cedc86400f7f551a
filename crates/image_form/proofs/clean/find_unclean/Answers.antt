use Rattle.image_form.proofs.Names.{◌≡◌, ◌+◌, ◌-◌, ◌*◌, inl, inr, ℕ, List, true≢false, refl, sym, ◌∙◌, subst, arith, cases_eq, Ok, frames_are_in, Frame, frames_in, group_shape, IsCleanFrame, IsGroupOn, IsLive, hi_of, stays_honest, looks_then, looks_answered, State, Image, group_on}
use Rattle.image_form.proofs.Counts.{few_then}
use Rattle.image_form.proofs.Lasting.{found_later, may_read_later}
use Rattle.image_form.proofs.CleanOnes.{clean_of_each, each_clean}
use Rattle.image_form.proofs.UnitsJudged.{end_is, live_there}
use Rattle.image_form.proofs.clean.find_unclean.Goals as goal

pub returns-then-not-clean-clause-clean : goal.returns-then-not-clean-clause-clean
returns-then-not-clean-clause-clean g c honest found groups shows =
    let geometry = c.args.geometry.now in
    let rings = c.args.rings.now in
    let ring = rings.groups in
    let old : State = g.S.Site.state c.args.site.now in
    let now : State = g.S.Site.state c.loop-group.site in
    let reads = c.loop-group.invariant.reads in
    let same : now.image ≡ old.image = (reads.same honest).image in
    let n : ℕ = c.loop-group.group in
    let some = c.requires.sizes.limits.groups in
    let live = live_there (group_shape geometry) ring old n c.requires.groups_shape found.groups (omega (arith, c.loop-group.auto.group, c.oldest-group.ensures)) (omega (arith, c.loop-group-test.true, c.hi-group-end.ensures)) in
    let frames = groups n live in
    let mine = frames_are_in (group_on geometry old.image n) frames.0 frames.1.group in
    let says = c.in-Ok.ensures.clean frames.0 (stays_honest old now reads.preserves honest) (found_later rings old now same found)
    (subst (λ (image : Image). IsGroupOn geometry (group_on geometry image n) frames.0) (sym same) frames.1) in (
      λ wrong. absurd (true≢false (sym wrong)),
      λ rule. absurd (true≢false (sym (says.1 (λ i. subst (λ (image : Image). IsCleanFrame image c.args.frames.now n frames.0 i) (sym same)
          (subst (λ (l : List Frame). IsCleanFrame old.image c.args.frames.now n l i) mine (each_clean geometry old.image c.args.frames.now (omega (arith, some)) groups shows rule n i)))) ∙ c.if-not-clean.true)),
    )

pub loop-group-preserved : goal.loop-group-preserved
loop-group-preserved g c =
    let geometry = c.args.geometry.now in
    let rings = c.args.rings.now in
    let ring = rings.groups in
    let old : State = g.S.Site.state c.args.site.now in
    let now : State = g.S.Site.state c.loop-group.site in
    let reads = c.loop-group.invariant.reads in
    let at : ℕ = c.loop-group.group in
    record {
      may_read = may_read_later geometry rings now (g.S.Site.state c.is_clean_group.new.site) c.in-Ok.ensures.reads.preserves c.loop-group.invariant.may_read;
      stand = λ honest found groups n live below. elim (cases_eq n at) [
        | inl here ↦
            let same : now.image ≡ old.image = (reads.same honest).image in
            let hi : ring.hi ≡ hi_of (group_shape geometry) old.image.flash = end_is (group_shape geometry) ring old c.requires.groups_shape found.groups in
            let lives : IsLive (group_shape geometry) (hi_of (group_shape geometry) old.image.flash) at = subst (λ (h : ℕ). IsLive (group_shape geometry) h at) hi (subst (IsLive (group_shape geometry) ring.hi) here live) in
            let frames = groups at lives in
            let mine = frames_are_in (group_on geometry old.image at) frames.0 frames.1.group in
            let says = c.in-Ok.ensures.clean frames.0 (stays_honest old now reads.preserves honest) (found_later rings old now same found)
            (subst (λ (image : Image). IsGroupOn geometry (group_on geometry image at) frames.0) (sym same) frames.1) in
            λ i. subst (λ (k : ℕ). IsCleanFrame old.image c.args.frames.now k (frames_in (group_on geometry old.image k)) i) (sym here)
            (subst (λ (l : List Frame). IsCleanFrame old.image c.args.frames.now at l i) (sym mine) (subst (λ (image : Image). IsCleanFrame image c.args.frames.now at frames.0 i) same (says.0 c.if-not-clean.false i)))
        | inr other ↦ c.loop-group.invariant.stand honest found groups n live (omega (arith, below, other))
      ];
      looks =
          let oldest = ring.hi - (ring.shape.slots - 1) in
          few_then 0 (17 * (at - oldest)) 0 17 0 (17 * (at + 1 - oldest)) old now (g.S.Site.state c.is_clean_group.new.site) (omega arith) (omega (arith, c.loop-group.auto.group, c.oldest-group.ensures)) c.loop-group.invariant.looks c.in-Ok.ensures.looks;
      reads = looks_then tt (Ok tt) old now (g.S.Site.state c.is_clean_group.new.site) reads (looks_answered c.in-Ok.clean tt now (g.S.Site.state c.is_clean_group.new.site) c.in-Ok.ensures.reads);
    }

pub returns-clause-clean : goal.returns-clause-clean
returns-clause-clean g c honest found groups shows =
    let geometry = c.args.geometry.now in
    let ring = c.args.rings.now.groups in
    let old : State = g.S.Site.state c.args.site.now in
    let some = c.requires.sizes.limits.groups in
    let hi : ring.hi ≡ hi_of (group_shape geometry) old.image.flash = end_is (group_shape geometry) ring old c.requires.groups_shape found.groups in (
      λ yes. clean_of_each geometry old.image c.args.frames.now (omega (arith, some)) groups shows (λ n live i.
          let here = subst (λ (h : ℕ). IsLive (group_shape geometry) h n) (sym hi) live in
          let below = here.below in
          c.loop-group.invariant.stand honest found groups n here (omega (arith, below, c.loop-group-test.false, c.hi-group-end.ensures)) i),
      λ rule. refl,
    )
