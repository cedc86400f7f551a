use Rattle.image_form.proofs.Names.{rules, refl, ◌≡◌, ℕ, List, IsTrue, sym, ◌∙◌, subst, true≢false, arith, ap, ◌+◌, ◌-◌, ◌/◌, FrameHead, segment_shape, ReadsAtMost, AreFound, IsSegmentOn, Shape, State, segment_on}
use Rattle.image_form.proofs.Counts.{few_then, flash_few}
use Rattle.image_form.proofs.Lasting.{may_read_later}
use Rattle.image_form.proofs.UnitsJudged.{live_there, one_more, read_whole}
use Rattle.image_form.proofs.segments.rule_segments.Given.{Over}
use Rattle.image_form.proofs.segments.rule_segments.Goals.{In_default}
use Rattle.image_form.proofs.segments.rule_segments.Goals as goal

-- what was read
whole : (g : Over) (c : In_default g) → IsTrue (g.S.Site.state c.args.site.now).honest → AreFound c.args.rings.now (g.S.Site.state c.args.site.now) → c.read_part.new.into ≡ segment_on c.args.geometry.now (g.S.Site.state c.args.site.now).image c.loop-segment.segment
whole g c honest found =
    let groups = c.requires.sizes.limits.groups in
    read_whole (segment_shape c.args.geometry.now) c.args.rings.now.segments (g.S.Site.state c.args.site.now) (g.S.Site.state c.loop-segment.site) c.loop-segment.segment 512 c.read_part.new.into (omega (arith, groups)) refl c.requires.segments_shape
    c.loop-segment.invariant.reads honest found.segments (omega (arith, c.loop-segment.auto.segment, c.oldest-segment.ensures)) (omega (arith, c.loop-segment-test.true, c.hi-segment-end.ensures)) c.in_default.ensures.part

pub returns-then-not-is_segment_on-clause-segments : goal.returns-then-not-is_segment_on-clause-segments
returns-then-not-is_segment_on-clause-segments g c honest found =
    let geometry = c.args.geometry.now in
    let is = whole g (goal.at.returns-then-not-is_segment_on-clause-segments g c).In_default honest found in
    let there = live_there (segment_shape geometry) c.args.rings.now.segments (g.S.Site.state c.args.site.now) c.loop-segment.segment c.requires.segments_shape found.segments
    (omega (arith, c.loop-segment.auto.segment, c.oldest-segment.ensures)) (omega (arith, c.loop-segment-test.true, c.hi-segment-end.ensures)) in (
      λ wrong. absurd (true≢false (sym wrong)),
      λ all.
          let heads = all c.loop-segment.segment there in
          absurd (true≢false (sym (c.is_segment_on.ensures.1 (heads.0, subst (λ (l : List ℕ). IsSegmentOn geometry.pages l heads.0) (sym is) heads.1)) ∙ c.if-not-is_segment_on.true)),
    )

pub loop-segment-preserved : goal.loop-segment-preserved
loop-segment-preserved g c =
    let geometry = c.args.geometry.now in
    let old : State = g.S.Site.state c.args.site.now in
    record {
      may_read = may_read_later geometry c.args.rings.now (g.S.Site.state c.loop-segment.site) (g.S.Site.state c.read_part.new.site) c.in_default.ensures.reads.preserves c.loop-segment.invariant.may_read;
      stand = λ honest found.
          let is = whole g (goal.at.loop-segment-preserved g c).In_default honest found in
          let here = c.is_segment_on.ensures.0 c.if-not-is_segment_on.false in
          one_more (λ content. (heads : List FrameHead) × IsSegmentOn geometry.pages content heads) (segment_shape geometry) old.image c.args.rings.now.segments.hi c.loop-segment.segment
          (here.0, subst (λ (l : List ℕ). IsSegmentOn geometry.pages l here.0) is here.1) (c.loop-segment.invariant.stand honest found);
      looks =
          let next : ReadsAtMost 0 1 (g.S.Site.state c.loop-segment.site) (g.S.Site.state c.read_part.new.site) = flash_few c.read_part.result c.args.rings.now.segments.shape.dev _ 1 _ _ (ap (λ (s : Shape). s.dev) c.requires.segments_shape) (omega arith) c.read_part.ensures.reads in
          few_then 0 ((c.loop-segment.segment - (c.args.rings.now.segments.hi - (c.args.rings.now.segments.shape.slots - 1)))) 0 1 0 ((c.loop-segment.segment + 1 - (c.args.rings.now.segments.hi - (c.args.rings.now.segments.shape.slots - 1)))) (g.S.Site.state c.args.site.now) (g.S.Site.state c.loop-segment.site) (g.S.Site.state c.read_part.new.site) (omega arith) (omega (arith, c.loop-segment.auto.segment, c.oldest-segment.ensures)) c.loop-segment.invariant.looks next;
      reads = search rules;
    }

pub returns-in-Err-clause-looks : goal.returns-in-Err-clause-looks
returns-in-Err-clause-looks g c =
    let slots = ap (λ (s : Shape). s.slots) c.requires.segments_shape in
    let next : ReadsAtMost 0 1 (g.S.Site.state c.loop-segment.site) (g.S.Site.state c.read_part.new.site) = flash_few c.read_part.result c.args.rings.now.segments.shape.dev _ 1 _ _ (ap (λ (s : Shape). s.dev) c.requires.segments_shape) (omega arith) c.read_part.ensures.reads in
    few_then 0 ((c.loop-segment.segment - (c.args.rings.now.segments.hi - (c.args.rings.now.segments.shape.slots - 1)))) 0 1 0 (c.args.geometry.now.groups / 4 + 3) (g.S.Site.state c.args.site.now) (g.S.Site.state c.loop-segment.site) (g.S.Site.state c.read_part.new.site) (omega arith)
    (omega (arith, slots, c.loop-segment.auto.segment, c.oldest-segment.ensures, c.loop-segment-test.true, c.hi-segment-end.ensures, c.requires.sizes.limits.groups)) c.loop-segment.invariant.looks next

pub returns-then-not-is_segment_on-clause-looks : goal.returns-then-not-is_segment_on-clause-looks
returns-then-not-is_segment_on-clause-looks g c =
    let slots = ap (λ (s : Shape). s.slots) c.requires.segments_shape in
    let next : ReadsAtMost 0 1 (g.S.Site.state c.loop-segment.site) (g.S.Site.state c.read_part.new.site) = flash_few c.read_part.result c.args.rings.now.segments.shape.dev _ 1 _ _ (ap (λ (s : Shape). s.dev) c.requires.segments_shape) (omega arith) c.read_part.ensures.reads in
    few_then 0 ((c.loop-segment.segment - (c.args.rings.now.segments.hi - (c.args.rings.now.segments.shape.slots - 1)))) 0 1 0 (c.args.geometry.now.groups / 4 + 3) (g.S.Site.state c.args.site.now) (g.S.Site.state c.loop-segment.site) (g.S.Site.state c.read_part.new.site) (omega arith)
    (omega (arith, slots, c.loop-segment.auto.segment, c.oldest-segment.ensures, c.loop-segment-test.true, c.hi-segment-end.ensures, c.requires.sizes.limits.groups)) c.loop-segment.invariant.looks next
