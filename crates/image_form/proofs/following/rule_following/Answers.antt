use Rattle.image_form.proofs.Names.{◌≡◌, inl, inr, ℕ, true, false, sym, ap, refl, ◌∙◌, subst, true≢false, arith, ◌+◌, ◌-◌, ◌*◌, cases_eq, Ok, Some, group_shape, segment_shape, AreHeadsSaved, region, IsLive, hi_of, Shape, stays_honest, looks_then, looks_answered, State, Image}
use Rattle.image_form.proofs.Counts.{few_then}
use Rattle.image_form.proofs.Lasting.{found_later, may_read_later}
use Rattle.image_form.proofs.SavedHeads.{follows, saved}
use Rattle.image_form.specs.declared.place.Place.TheVariants as place
use Rattle.image_form.proofs.following.rule_following.Goals as goal

-- src/following.rt:74:13
pub returns-then-not-same-clause-following : goal.returns-then-not-same-clause-following
returns-then-not-same-clause-following g c m honest found formed =
    let geometry = c.args.geometry.now in
    let rings = c.args.rings.now in
    let old : State = g.S.Site.state c.args.site.now in
    let now : State = g.S.Site.state c.loop-group.site in
    let reads = c.loop-group.invariant.reads in
    let same : now.image ≡ old.image = (reads.same honest).image in
    let group : ℕ = c.loop-group.group in
    let slots : rings.groups.shape.slots ≡ geometry.groups = ap (λ (s : Shape). s.slots) c.requires.groups_shape in
    let hi : rings.groups.hi ≡ hi_of (group_shape geometry) old.image.flash = found.groups ∙ ap (λ (s : Shape). hi_of s (region s old)) c.requires.groups_shape in
    let next : rings.segments.hi ≡ hi_of (segment_shape geometry) old.image.flash = found.segments ∙ ap (λ (s : Shape). hi_of s (region s old)) c.requires.segments_shape in
    let end = c.if-end-saved.false in
    let below = c.loop-group-test.true in
    let low = c.loop-group.auto.group in
    let oldest = c.oldest-group.ensures in
    let all = c.hi-end.ensures in
    let segments = c.hi-saved.ensures in
    let live : IsLive (group_shape geometry) (hi_of (group_shape geometry) old.image.flash) group = record {
      below = omega (arith, end, below, all, segments, hi);
      near = omega (arith, low, oldest, slots, hi);
    } in
    let heard = c.in-Ok.ensures.saved geometry c.loop-group.invariant.may_read (stays_honest old now reads.preserves honest) (found_later rings old now same found) in (
      λ no. let wrong : false ≡ true = no in absurd (true≢false (sym wrong)),
      λ rule.
          let here : AreHeadsSaved geometry old.image group = (saved geometry m old.image formed rule).2 group live (omega (arith, below, segments, next)) in
          absurd (true≢false (sym (heard.1 (subst (λ (image : Image). AreHeadsSaved geometry image group) (sym same) here)) ∙ c.if-not-same.true)),
    )

-- src/following.rt:74:13
pub returns-then-not-same-clause-reads : goal.returns-then-not-same-clause-reads
returns-then-not-same-clause-reads g c =
    let group : ℕ = c.loop-group.group in
    looks_answered c.in-Ok.same (Some (place.Group group)) _ _ (looks_then tt (Ok c.in-Ok.same) _ _ _ c.loop-group.invariant.reads c.in-Ok.ensures.reads)

-- src/following.rt:68:5
pub loop-group-preserved : goal.loop-group-preserved
loop-group-preserved g c =
    let geometry = c.args.geometry.now in
    let rings = c.args.rings.now in
    let old : State = g.S.Site.state c.args.site.now in
    let now : State = g.S.Site.state c.loop-group.site in
    let new : State = g.S.Site.state c.are_saved.new.site in
    let reads = c.loop-group.invariant.reads in
    let group : ℕ = c.loop-group.group in
    record {
      may_read = may_read_later geometry rings now new c.in-Ok.ensures.reads.preserves c.loop-group.invariant.may_read;
      saved = λ honest found n live below.
          let same : now.image ≡ old.image = (reads.same honest).image in
          let heard = c.in-Ok.ensures.saved geometry c.loop-group.invariant.may_read (stays_honest old now reads.preserves honest) (found_later rings old now same found) in
          let here : AreHeadsSaved geometry old.image group = subst (λ (image : Image). AreHeadsSaved geometry image group) same (heard.0 c.if-not-same.false) in
          elim (cases_eq n group) [
            | inl is ↦ subst (AreHeadsSaved geometry old.image) (sym is) here
            | inr other ↦ c.loop-group.invariant.saved honest found n live (omega (arith, below, other))
          ];
      looks = few_then 0 (2 * (group - (c.args.rings.now.groups.hi - (c.args.rings.now.groups.shape.slots - 1)))) 0 2 0 (2 * (group + 1 - (c.args.rings.now.groups.hi - (c.args.rings.now.groups.shape.slots - 1)))) old now new (omega arith) (omega (arith, c.loop-group.auto.group, c.oldest-group.ensures)) c.loop-group.invariant.looks c.in-Ok.ensures.looks;
      reads = looks_answered c.in-Ok.same tt old new (looks_then tt (Ok c.in-Ok.same) old now new reads c.in-Ok.ensures.reads);
    }

-- src/following.rt:51:1
pub returns-clause-following : goal.returns-clause-following
returns-clause-following g c m honest found formed =
    let geometry = c.args.geometry.now in
    let rings = c.args.rings.now in
    let old : State = g.S.Site.state c.args.site.now in
    let hi : rings.groups.hi ≡ hi_of (group_shape geometry) old.image.flash = found.groups ∙ ap (λ (s : Shape). hi_of s (region s old)) c.requires.groups_shape in
    let next : rings.segments.hi ≡ hi_of (segment_shape geometry) old.image.flash = found.segments ∙ ap (λ (s : Shape). hi_of s (region s old)) c.requires.segments_shape in
    let all = c.hi-end.ensures in
    let segments = c.hi-saved.ensures in
    let end = c.if-end-saved.false in
    let few = c.if-saved-end.false in
    let past = c.loop-group-test.false in (
      λ yes.
          follows geometry m old.image formed (omega (arith, end, all, segments, hi, next)) (omega (arith, few, all, segments, hi, next))
          (λ n live less. c.loop-group.invariant.saved honest found n (subst (λ (h : ℕ). IsLive (group_shape geometry) h n) (sym hi) live) (omega (arith, past, less, segments, next))),
      λ rule. refl,
    )
