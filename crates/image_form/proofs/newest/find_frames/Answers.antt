use Rattle.image_form.proofs.Names.{rules, ◌≡◌, ◌+◌, ◌-◌, ◌++◌, ◌∷◌, [], ℕ, List, All, map, length, sym, ap, ◌∙◌, subst, arith, length-append, none-some, same_Some, Ok, AreGroupHeads, FrameHead, known_in, heads_of, IsGroup, group_shape, hi_of, Shape, Queue, stays_honest, looks_then, looks_answered, State, Image, group_on}
use Rattle.image_form.proofs.Counts.{few_then}
use Rattle.image_form.proofs.Lasting.{found_later, may_read_later}
use Rattle.image_form.proofs.NewestRead.{AreHeadsFrom, some_formed, all_pushed, one_group_more, all_groups}
use Rattle.image_form.proofs.UnitsJudged.{end_is, live_there}
use Rattle.image_form.proofs.newest.find_frames.Goals as goal

pub returns-in-Ok-None-clause-formed : goal.returns-in-Ok-None-clause-formed
returns-in-Ok-None-clause-formed g c honest found groups =
    let geometry = c.args.geometry.now in
    let rings = c.args.rings.now in
    let ring = rings.groups in
    let old : State = g.S.Site.state c.args.site.now in
    let now : State = g.S.Site.state c.loop-group.site in
    let reads = c.loop-group.invariant.reads in
    let same : now.image ≡ old.image = (reads.same honest).image in
    let n : ℕ = c.loop-group.group in
    let live = live_there (group_shape geometry) ring old n c.requires.groups_shape found.groups (omega (arith, c.loop-group.auto.group, c.oldest-first.ensures)) (omega (arith, c.loop-group-test.true, c.hi-group-end.ensures)) in
    let frames = groups n live in
    let there : IsGroup (group_on geometry now.image n) frames.0 = subst (λ (image : Image). IsGroup (group_on geometry image n) frames.0) (sym same) frames.1.group in
    let says = c.in-Ok-None.ensures.heads geometry frames.0 c.loop-group.invariant.may_read (stays_honest old now reads.preserves honest) (found_later rings old now same found) there in
    none-some (heads_of frames.0) (sym c.in-Ok-None.field-0-is ∙ says)

pub loop-group-preserved : goal.loop-group-preserved
loop-group-preserved g c =
    let geometry = c.args.geometry.now in
    let rings = c.args.rings.now in
    let ring = rings.groups in
    let old : State = g.S.Site.state c.args.site.now in
    let now : State = g.S.Site.state c.loop-group.site in
    let reads = c.loop-group.invariant.reads in
    let n : ℕ = c.loop-group.group in
    let list : List (List FrameHead) = c.loop-group.list.items in
    let heads : List FrameHead = c.in-Ok-Some.heads in
    let items : c.push.new.self.items ≡ list ++ heads ∷ [] = c.in-Ok.ensures.items in
    let count = c.loop-group.invariant.count in
    record {
      may_read = may_read_later geometry rings now (g.S.Site.state c.heads_at.new.site) c.in-Ok-Some.ensures.reads.preserves c.loop-group.invariant.may_read;
      formed = subst (All (λ x. AreGroupHeads x)) (sym items) (all_pushed list heads c.loop-group.invariant.formed (some_formed c.in-Ok-Some.field-0 heads c.in-Ok-Some.field-0-is c.in-Ok-Some.ensures.formed));
      count = let long = ap length items ∙ length-append list (heads ∷ []) in omega (arith, long, count);
      most = omega (arith, c.loop-group-test.true, c.hi-group-end.ensures);
      looks = few_then 0 (n - c.oldest-first.result) 0 1 0 (n + 1 - c.oldest-first.result) old now (g.S.Site.state c.heads_at.new.site) (omega arith) (omega (arith, c.loop-group.auto.group)) c.loop-group.invariant.looks c.in-Ok-Some.ensures.looks;
      heads = λ honest found groups.
          let same : now.image ≡ old.image = (reads.same honest).image in
          let some = c.requires.sizes.limits.groups in
          let live = live_there (group_shape geometry) ring old n c.requires.groups_shape found.groups (omega (arith, c.loop-group.auto.group, c.oldest-first.ensures)) (omega (arith, c.loop-group-test.true, c.hi-group-end.ensures)) in
          let frames = groups n live in
          let there : IsGroup (group_on geometry now.image n) frames.0 = subst (λ (image : Image). IsGroup (group_on geometry image n) frames.0) (sym same) frames.1.group in
          let says = c.in-Ok-Some.ensures.heads geometry frames.0 c.loop-group.invariant.may_read (stays_honest old now reads.preserves honest) (found_later rings old now same found) there in
          let own : heads ≡ heads_of frames.0 = same_Some heads (heads_of frames.0) (sym c.in-Ok-Some.field-0-is ∙ says) in
          subst (AreHeadsFrom geometry old.image c.oldest-first.result) (sym items)
          (one_group_more geometry old.image c.oldest-first.result n list heads frames.0 (omega (arith, some)) live count frames.1.group own (c.loop-group.invariant.heads honest found groups));
      reads = looks_then tt (Ok tt) old now (g.S.Site.state c.heads_at.new.site) reads (looks_answered c.in-Ok-Some.field-0 tt now (g.S.Site.state c.heads_at.new.site) c.in-Ok-Some.ensures.reads);
    }

pub of_groups-requires-clause-groups : goal.of_groups-requires-clause-groups
of_groups-requires-clause-groups g c k d lt =
    let items : c.as_slice.result.now ≡ c.loop-group.list.items = search rules in
    subst (All (λ heads. AreGroupHeads heads)) (sym items) c.loop-group.invariant.formed k d lt

pub returns-in-Ok-of_groups-clause-shown : goal.returns-in-Ok-of_groups-clause-shown
returns-in-Ok-of_groups-clause-shown g c honest found groups =
    let geometry = c.args.geometry.now in
    let ring = c.args.rings.now.groups in
    let old : State = g.S.Site.state c.args.site.now in
    let list : List (List FrameHead) = c.loop-group.list.items in
    let first : ℕ = c.oldest-first.result in
    let slots : ring.shape.slots ≡ geometry.groups = ap (λ (s : Shape). s.slots) c.requires.groups_shape in
    let some = c.requires.sizes.limits.groups in
    let hi : ring.hi ≡ hi_of (group_shape geometry) old.image.flash = end_is (group_shape geometry) ring old c.requires.groups_shape found.groups in
    let count = c.loop-group.invariant.count in
    let most = c.loop-group.invariant.most in
    let items : c.as_slice.result.now ≡ list = search rules in
    let is : c.in-Ok-of_groups.frames ≡ record { first = first; groups = map known_in list } =
    c.in-Ok-of_groups.ensures.ok ∙ ap (λ (l : List (List FrameHead)). let q : Queue = record { first = first; groups = map known_in l } in q) items in
    all_groups geometry old.image first list c.in-Ok-of_groups.frames (omega (arith, some)) (omega (arith, c.oldest-first.ensures, slots, hi)) (omega (arith, count, most, c.loop-group-test.false, c.hi-group-end.ensures, hi)) (c.loop-group.invariant.heads honest found groups) is
