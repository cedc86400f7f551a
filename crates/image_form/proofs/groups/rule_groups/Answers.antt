use Rattle.image_form.proofs.Names.{rules, refl, ◌≡◌, ℕ, List, IsTrue, sym, ◌∙◌, subst, true≢false, arith, ap, ◌+◌, ◌-◌, ◌*◌, Frame, group_shape, ReadsAtMost, AreFound, IsGroupOn, Shape, State, group_on}
use Rattle.image_form.proofs.Counts.{few_then, flash_few}
use Rattle.image_form.proofs.Lasting.{may_read_later}
use Rattle.image_form.proofs.UnitsJudged.{live_there, one_more, read_whole}
use Rattle.image_form.proofs.groups.rule_groups.Given.{Over}
use Rattle.image_form.proofs.groups.rule_groups.Goals.{In_default}
use Rattle.image_form.proofs.groups.rule_groups.Goals as goal

-- what was read
whole : (g : Over) (c : In_default g) → IsTrue (g.S.Site.state c.args.site.now).honest → AreFound c.args.rings.now (g.S.Site.state c.args.site.now) → c.read_part.new.into ≡ group_on c.args.geometry.now (g.S.Site.state c.args.site.now).image c.loop-group.group
whole g c honest found =
    let groups = c.requires.sizes.limits.groups in
    read_whole (group_shape c.args.geometry.now) c.args.rings.now.groups (g.S.Site.state c.args.site.now) (g.S.Site.state c.loop-group.site) c.loop-group.group 32896 c.read_part.new.into (omega (arith, groups)) refl c.requires.groups_shape
    c.loop-group.invariant.reads honest found.groups (omega (arith, c.loop-group.auto.group, c.oldest-group.ensures)) (omega (arith, c.loop-group-test.true, c.hi-group-end.ensures)) c.in_default.ensures.part

pub returns-then-not-is_group_on-clause-groups : goal.returns-then-not-is_group_on-clause-groups
returns-then-not-is_group_on-clause-groups g c honest found =
    let geometry = c.args.geometry.now in
    let is = whole g (goal.at.returns-then-not-is_group_on-clause-groups g c).In_default honest found in
    let there = live_there (group_shape geometry) c.args.rings.now.groups (g.S.Site.state c.args.site.now) c.loop-group.group c.requires.groups_shape found.groups
    (omega (arith, c.loop-group.auto.group, c.oldest-group.ensures)) (omega (arith, c.loop-group-test.true, c.hi-group-end.ensures)) in (
      λ wrong. absurd (true≢false (sym wrong)),
      λ all.
          let heads = all c.loop-group.group there in
          absurd (true≢false (sym ((c.is_group_on.ensures geometry refl).1 (heads.0, subst (λ (l : List ℕ). IsGroupOn geometry l heads.0) (sym is) heads.1)) ∙ c.if-not-is_group_on.true)),
    )

pub loop-group-preserved : goal.loop-group-preserved
loop-group-preserved g c =
    let geometry = c.args.geometry.now in
    let old : State = g.S.Site.state c.args.site.now in
    record {
      may_read = may_read_later geometry c.args.rings.now (g.S.Site.state c.loop-group.site) (g.S.Site.state c.read_part.new.site) c.in_default.ensures.reads.preserves c.loop-group.invariant.may_read;
      stand = λ honest found.
          let is = whole g (goal.at.loop-group-preserved g c).In_default honest found in
          let here = (c.is_group_on.ensures geometry refl).0 c.if-not-is_group_on.false in
          one_more (λ content. (frames : List Frame) × IsGroupOn geometry content frames) (group_shape geometry) old.image c.args.rings.now.groups.hi c.loop-group.group
          (here.0, subst (λ (l : List ℕ). IsGroupOn geometry l here.0) is here.1) (c.loop-group.invariant.stand honest found);
      looks =
          let next : ReadsAtMost 0 9 (g.S.Site.state c.loop-group.site) (g.S.Site.state c.read_part.new.site) = flash_few c.read_part.result c.args.rings.now.groups.shape.dev _ 9 _ _ (ap (λ (s : Shape). s.dev) c.requires.groups_shape) (omega arith) c.read_part.ensures.reads in
          few_then 0 (9 * (c.loop-group.group - (c.args.rings.now.groups.hi - (c.args.rings.now.groups.shape.slots - 1)))) 0 9 0 (9 * (c.loop-group.group + 1 - (c.args.rings.now.groups.hi - (c.args.rings.now.groups.shape.slots - 1)))) (g.S.Site.state c.args.site.now) (g.S.Site.state c.loop-group.site) (g.S.Site.state c.read_part.new.site) (omega arith) (omega (arith, c.loop-group.auto.group, c.oldest-group.ensures)) c.loop-group.invariant.looks next;
      reads = search rules;
    }

pub returns-in-Err-clause-looks : goal.returns-in-Err-clause-looks
returns-in-Err-clause-looks g c =
    let slots = ap (λ (s : Shape). s.slots) c.requires.groups_shape in
    let next : ReadsAtMost 0 9 (g.S.Site.state c.loop-group.site) (g.S.Site.state c.read_part.new.site) = flash_few c.read_part.result c.args.rings.now.groups.shape.dev _ 9 _ _ (ap (λ (s : Shape). s.dev) c.requires.groups_shape) (omega arith) c.read_part.ensures.reads in
    few_then 0 (9 * (c.loop-group.group - (c.args.rings.now.groups.hi - (c.args.rings.now.groups.shape.slots - 1)))) 0 9 0 (9 * c.args.geometry.now.groups) (g.S.Site.state c.args.site.now) (g.S.Site.state c.loop-group.site) (g.S.Site.state c.read_part.new.site) (omega arith)
    (omega (arith, slots, c.loop-group.auto.group, c.oldest-group.ensures, c.loop-group-test.true, c.hi-group-end.ensures, c.requires.sizes.limits.groups)) c.loop-group.invariant.looks next

pub returns-then-not-is_group_on-clause-looks : goal.returns-then-not-is_group_on-clause-looks
returns-then-not-is_group_on-clause-looks g c =
    let slots = ap (λ (s : Shape). s.slots) c.requires.groups_shape in
    let next : ReadsAtMost 0 9 (g.S.Site.state c.loop-group.site) (g.S.Site.state c.read_part.new.site) = flash_few c.read_part.result c.args.rings.now.groups.shape.dev _ 9 _ _ (ap (λ (s : Shape). s.dev) c.requires.groups_shape) (omega arith) c.read_part.ensures.reads in
    few_then 0 (9 * (c.loop-group.group - (c.args.rings.now.groups.hi - (c.args.rings.now.groups.shape.slots - 1)))) 0 9 0 (9 * c.args.geometry.now.groups) (g.S.Site.state c.args.site.now) (g.S.Site.state c.loop-group.site) (g.S.Site.state c.read_part.new.site) (omega arith)
    (omega (arith, slots, c.loop-group.auto.group, c.oldest-group.ensures, c.loop-group-test.true, c.hi-group-end.ensures, c.requires.sizes.limits.groups)) c.loop-group.invariant.looks next
