use Rattle.image_form.proofs.Names.{rules, ◌≡◌, ◌↔◌, IsTrue, true≢false, refl, sym, subst, ◌+◌, ◌*◌, ap, arith, Some, is_none, segment_slots, MayRead, IsThere, AreBlocks, AreGroups, SegmentsAreFormed, AreVersions, OctetsAreFormed, looks_then, looks_answered, State, Geometry}
use Rattle.std.proofs.Common.{Ok}
use Rattle.image_form.proofs.Counts.{few_more, few_then}
use Rattle.image_form.proofs.FirstRule.{StillThere, may_be_read_later, still_there, part_holds, part_fails, placed, unplaced, answers_as}
use Rattle.image_form.proofs.formed.find_unformed.Given.{Over}
use Rattle.image_form.proofs.formed.find_unformed.Goals.{In_default, In_default-2}
use Rattle.image_form.proofs.formed.find_unformed.Goals as goal

pub rule_groups-requires : goal.rule_groups-requires
rule_groups-requires g c =
    let found = c.args.found.now in
    let may = may_be_read_later found _ _ c.in_ok-place.ensures.reads.preserves c.requires in
    subst (λ (x : Geometry). MayRead x found.rings (g.S.Site.state c.rule_blocks.new.site)) (sym c.geometry-geometry.ensures) may.may_read

pub rule_segments-requires : goal.rule_segments-requires
rule_segments-requires g c =
    let found = c.args.found.now in
    let may = may_be_read_later found _ _ c.in_ok-place-2.ensures.reads.preserves (may_be_read_later found _ _ c.in_ok-place.ensures.reads.preserves c.requires) in
    subst (λ (x : Geometry). MayRead x found.rings (g.S.Site.state c.rule_groups.new.site)) (sym c.geometry-geometry.ensures) may.may_read

pub rule_versions-requires : goal.rule_versions-requires
rule_versions-requires g c =
    let found = c.args.found.now in
    let may = may_be_read_later found _ _ c.in_ok-place-2.ensures.reads.preserves (may_be_read_later found _ _ c.in_ok-place.ensures.reads.preserves c.requires) in
    subst (λ (x : Geometry). MayRead x found.rings (g.S.Site.state c.rule_segments.new.site)) (sym c.geometry-geometry.ensures) (may_be_read_later found _ _ c.in_ok-place-3.ensures.reads.preserves may).may_read

-- what was found is there after the first rule's parts
still_one : (g : Over) (c : In_default g) → IsThere c.args.found.now (g.S.Site.state c.args.site.now) → StillThere c.args.found.now (g.S.Site.state c.args.site.now) (g.S.Site.state c.rule_blocks.new.site)
still_one g c there = still_there c.in_ok-place.field-0 _ _ _ _ c.in_ok-place.ensures.reads (record { there = there; same = refl })

still_two : (g : Over) (c : In_default-2 g) → IsThere c.args.found.now (g.S.Site.state c.args.site.now) → StillThere c.args.found.now (g.S.Site.state c.args.site.now) (g.S.Site.state c.rule_groups.new.site)
still_two g c there = still_there c.in_ok-place-2.field-0 _ _ _ _ c.in_ok-place-2.ensures.reads (still_there c.in_ok-place.field-0 _ _ _ _ c.in_ok-place.ensures.reads (record { there = there; same = refl }))

pub returns-in-Some-2-clause-formed : goal.returns-in-Some-2-clause-formed
returns-in-Some-2-clause-formed g c there =
    let found = c.args.found.now in
    let geo : c.geometry-geometry.result ≡ found.log.geometry = c.geometry-geometry.ensures in
    let s0 : State = g.S.Site.state c.args.site.now in
    let s1 : State = g.S.Site.state c.rule_blocks.new.site in
    let t1 = still_one g (goal.at.returns-in-Some-2-clause-formed g c).In_default there in
    let says = subst (λ (x : Geometry). IsTrue (is_none c.in_ok-place-2.field-0) ↔ AreGroups x s1.image) geo (c.in_ok-place-2.ensures.groups t1.there.log.honest t1.there.rings) in (
      λ wrong. absurd (true≢false (sym wrong)),
      λ rule. absurd (part_fails (AreGroups found.log.geometry) (is_none c.in_ok-place-2.field-0) s0.image s1.image t1.same says (placed c.in_ok-place-2.field-0 c.in-Some-2.place c.in-Some-2.is) rule.groups),
    )

pub returns-in_err-place-3-clause-reads : goal.returns-in_err-place-3-clause-reads
returns-in_err-place-3-clause-reads g c =
    looks_then c.in_ok-place.field-0 c.from_residual-in_err-place-3.result _ _ _ c.in_ok-place.ensures.reads
    (looks_then c.in_ok-place-2.field-0 c.from_residual-in_err-place-3.result _ _ _ c.in_ok-place-2.ensures.reads (search rules))

pub returns-in-Some-3-clause-formed : goal.returns-in-Some-3-clause-formed
returns-in-Some-3-clause-formed g c there =
    let found = c.args.found.now in
    let geo : c.geometry-geometry.result ≡ found.log.geometry = c.geometry-geometry.ensures in
    let s0 : State = g.S.Site.state c.args.site.now in
    let s2 : State = g.S.Site.state c.rule_groups.new.site in
    let t2 = still_two g (goal.at.returns-in-Some-3-clause-formed g c).In_default-2 there in
    let says = subst (λ (x : Geometry). IsTrue (is_none c.in_ok-place-3.field-0) ↔ SegmentsAreFormed x s2.image) geo (c.in_ok-place-3.ensures.segments t2.there.log.honest t2.there.rings) in (
      λ wrong. absurd (true≢false (sym wrong)),
      λ rule. absurd (part_fails (SegmentsAreFormed found.log.geometry) (is_none c.in_ok-place-3.field-0) s0.image s2.image t2.same says (placed c.in_ok-place-3.field-0 c.in-Some-3.place c.in-Some-3.is) rule.segments),
    )

pub returns-in-Some-3-clause-reads : goal.returns-in-Some-3-clause-reads
returns-in-Some-3-clause-reads g c =
    looks_then c.in_ok-place.field-0 (Ok (Some c.in-Some-3.place)) _ _ _ c.in_ok-place.ensures.reads
    (looks_then c.in_ok-place-2.field-0 (Ok (Some c.in-Some-3.place)) _ _ _ c.in_ok-place-2.ensures.reads
    (looks_answered c.in_ok-place-3.field-0 (Some c.in-Some-3.place) _ _ c.in_ok-place-3.ensures.reads))

pub returns-clause-formed : goal.returns-clause-formed
returns-clause-formed g c there =
    let found = c.args.found.now in
    let geo : c.geometry-geometry.result ≡ found.log.geometry = c.geometry-geometry.ensures in
    let s0 : State = g.S.Site.state c.args.site.now in
    let s1 : State = g.S.Site.state c.rule_blocks.new.site in
    let s2 : State = g.S.Site.state c.rule_groups.new.site in
    let s3 : State = g.S.Site.state c.rule_segments.new.site in
    let t1 = still_one g (goal.at.returns-clause-formed g c).In_default there in
    let t2 = still_two g (goal.at.returns-clause-formed g c).In_default-2 there in
    let t3 : StillThere found s0 s3 = still_there c.in_ok-place-3.field-0 found s0 s2 s3 c.in_ok-place-3.ensures.reads t2 in
    let groups : AreGroups found.log.geometry s0.image = part_holds (AreGroups found.log.geometry) (is_none c.in_ok-place-2.field-0) s0.image s1.image t1.same
    (subst (λ (x : Geometry). IsTrue (is_none c.in_ok-place-2.field-0) ↔ AreGroups x s1.image) geo (c.in_ok-place-2.ensures.groups t1.there.log.honest t1.there.rings)) (unplaced c.in_ok-place-2.field-0 c.in_default-2.is) in
    let blocks : AreBlocks found.log.geometry found.master.kept s0.image = part_holds (AreBlocks found.log.geometry found.master.kept) (is_none c.in_ok-place.field-0) s0.image s0.image refl
    (c.in_ok-place.ensures.blocks there.log) (unplaced c.in_ok-place.field-0 c.in_default.is) in
    let segments : SegmentsAreFormed found.log.geometry s0.image = part_holds (SegmentsAreFormed found.log.geometry) (is_none c.in_ok-place-3.field-0) s0.image s2.image t2.same
    (subst (λ (x : Geometry). IsTrue (is_none c.in_ok-place-3.field-0) ↔ SegmentsAreFormed x s2.image) geo (c.in_ok-place-3.ensures.segments t2.there.log.honest t2.there.rings)) (unplaced c.in_ok-place-3.field-0 c.in_default-3.is) in
    let there3 : AreGroups c.geometry-geometry.result s3.image = subst (λ (x : Geometry). AreGroups x s3.image) (sym geo) (subst (AreGroups found.log.geometry) (sym t3.same) groups) in
    answers_as c.rule_versions.result (λ failing. IsTrue (is_none failing) ↔ AreVersions c.geometry-geometry.result s3.image) (λ failing. IsTrue (is_none failing) ↔ OctetsAreFormed found.log.geometry found.master s0.image)
    (λ failing says.
    let versions = subst (λ (x : Geometry). IsTrue (is_none failing) ↔ AreVersions x s3.image) geo says in (
      λ yes. record {
        sizes = c.requires.may_read.sizes;
        rings = there.are_rings;
        master = there.master;
        blocks = blocks;
        groups = groups;
        segments = segments;
        versions = part_holds (AreVersions found.log.geometry) (is_none failing) s0.image s3.image t3.same versions yes;
      },
      λ rule. versions.1 (subst (AreVersions found.log.geometry) (sym t3.same) rule.versions),
    )) (c.rule_versions.ensures.versions t3.there.log.honest t3.there.rings there3)

pub returns-clause-reads : goal.returns-clause-reads
returns-clause-reads g c =
    looks_then c.in_ok-place.field-0 c.rule_versions.result _ _ _ c.in_ok-place.ensures.reads
    (looks_then c.in_ok-place-2.field-0 c.rule_versions.result _ _ _ c.in_ok-place-2.ensures.reads
    (looks_then c.in_ok-place-3.field-0 c.rule_versions.result _ _ _ c.in_ok-place-3.ensures.reads c.rule_versions.ensures.reads))

pub returns-in_err-place-clause-looks : goal.returns-in_err-place-clause-looks
returns-in_err-place-clause-looks g c =
    let found = c.args.found.now in
    let sizes : Geometry = found.log.geometry in
    let most = 10 * sizes.groups + segment_slots sizes + sizes.pages in
    few_more _ 0 sizes.blocks most (g.S.Site.state c.args.site.now) (g.S.Site.state c.rule_blocks.new.site) (omega arith) (omega arith) c.rule_blocks.ensures.looks

pub returns-in-Some-clause-looks : goal.returns-in-Some-clause-looks
returns-in-Some-clause-looks g c =
    let found = c.args.found.now in
    let sizes : Geometry = found.log.geometry in
    let most = 10 * sizes.groups + segment_slots sizes + sizes.pages in
    few_more _ 0 sizes.blocks most (g.S.Site.state c.args.site.now) (g.S.Site.state c.rule_blocks.new.site) (omega arith) (omega arith) c.rule_blocks.ensures.looks

pub returns-in_err-place-2-clause-looks : goal.returns-in_err-place-2-clause-looks
returns-in_err-place-2-clause-looks g c =
    let found = c.args.found.now in
    let sizes : Geometry = found.log.geometry in
    let most = 10 * sizes.groups + segment_slots sizes + sizes.pages in
    let groups = ap (λ (x : Geometry). x.groups) c.geometry-geometry.ensures in
    let pages = ap (λ (x : Geometry). x.pages) c.geometry-geometry.ensures in
    few_then sizes.blocks 0 0 (9 * c.geometry-geometry.result.groups) sizes.blocks most (g.S.Site.state c.args.site.now) (g.S.Site.state c.rule_blocks.new.site) (g.S.Site.state c.rule_groups.new.site) (omega arith) (omega (arith, groups, pages))
    (few_more _ 0 sizes.blocks 0 (g.S.Site.state c.args.site.now) (g.S.Site.state c.rule_blocks.new.site) (omega arith) (omega arith) c.rule_blocks.ensures.looks) c.rule_groups.ensures.looks

pub returns-in-Some-2-clause-looks : goal.returns-in-Some-2-clause-looks
returns-in-Some-2-clause-looks g c =
    let found = c.args.found.now in
    let sizes : Geometry = found.log.geometry in
    let most = 10 * sizes.groups + segment_slots sizes + sizes.pages in
    let groups = ap (λ (x : Geometry). x.groups) c.geometry-geometry.ensures in
    let pages = ap (λ (x : Geometry). x.pages) c.geometry-geometry.ensures in
    few_then sizes.blocks 0 0 (9 * c.geometry-geometry.result.groups) sizes.blocks most (g.S.Site.state c.args.site.now) (g.S.Site.state c.rule_blocks.new.site) (g.S.Site.state c.rule_groups.new.site) (omega arith) (omega (arith, groups, pages))
    (few_more _ 0 sizes.blocks 0 (g.S.Site.state c.args.site.now) (g.S.Site.state c.rule_blocks.new.site) (omega arith) (omega arith) c.rule_blocks.ensures.looks) c.rule_groups.ensures.looks

pub returns-in_err-place-3-clause-looks : goal.returns-in_err-place-3-clause-looks
returns-in_err-place-3-clause-looks g c =
    let found = c.args.found.now in
    let sizes : Geometry = found.log.geometry in
    let most = 10 * sizes.groups + segment_slots sizes + sizes.pages in
    let groups = ap (λ (x : Geometry). x.groups) c.geometry-geometry.ensures in
    let pages = ap (λ (x : Geometry). x.pages) c.geometry-geometry.ensures in
    few_then sizes.blocks (9 * sizes.groups) 0 (segment_slots c.geometry-geometry.result) sizes.blocks most (g.S.Site.state c.args.site.now) (g.S.Site.state c.rule_groups.new.site) (g.S.Site.state c.rule_segments.new.site) (omega arith) (omega (arith, groups, pages))
    (few_then sizes.blocks 0 0 (9 * c.geometry-geometry.result.groups) sizes.blocks (9 * sizes.groups) (g.S.Site.state c.args.site.now) (g.S.Site.state c.rule_blocks.new.site) (g.S.Site.state c.rule_groups.new.site) (omega arith) (omega (arith, groups, pages))
    (few_more _ 0 sizes.blocks 0 (g.S.Site.state c.args.site.now) (g.S.Site.state c.rule_blocks.new.site) (omega arith) (omega arith) c.rule_blocks.ensures.looks) c.rule_groups.ensures.looks) c.rule_segments.ensures.looks

pub returns-in-Some-3-clause-looks : goal.returns-in-Some-3-clause-looks
returns-in-Some-3-clause-looks g c =
    let found = c.args.found.now in
    let sizes : Geometry = found.log.geometry in
    let most = 10 * sizes.groups + segment_slots sizes + sizes.pages in
    let groups = ap (λ (x : Geometry). x.groups) c.geometry-geometry.ensures in
    let pages = ap (λ (x : Geometry). x.pages) c.geometry-geometry.ensures in
    few_then sizes.blocks (9 * sizes.groups) 0 (segment_slots c.geometry-geometry.result) sizes.blocks most (g.S.Site.state c.args.site.now) (g.S.Site.state c.rule_groups.new.site) (g.S.Site.state c.rule_segments.new.site) (omega arith) (omega (arith, groups, pages))
    (few_then sizes.blocks 0 0 (9 * c.geometry-geometry.result.groups) sizes.blocks (9 * sizes.groups) (g.S.Site.state c.args.site.now) (g.S.Site.state c.rule_blocks.new.site) (g.S.Site.state c.rule_groups.new.site) (omega arith) (omega (arith, groups, pages))
    (few_more _ 0 sizes.blocks 0 (g.S.Site.state c.args.site.now) (g.S.Site.state c.rule_blocks.new.site) (omega arith) (omega arith) c.rule_blocks.ensures.looks) c.rule_groups.ensures.looks) c.rule_segments.ensures.looks

pub returns-clause-looks : goal.returns-clause-looks
returns-clause-looks g c =
    let found = c.args.found.now in
    let sizes : Geometry = found.log.geometry in
    let most = 10 * sizes.groups + segment_slots sizes + sizes.pages in
    let groups = ap (λ (x : Geometry). x.groups) c.geometry-geometry.ensures in
    let pages = ap (λ (x : Geometry). x.pages) c.geometry-geometry.ensures in
    few_then sizes.blocks (9 * sizes.groups + segment_slots sizes) 0 (c.geometry-geometry.result.groups + c.geometry-geometry.result.pages) sizes.blocks most (g.S.Site.state c.args.site.now) (g.S.Site.state c.rule_segments.new.site) (g.S.Site.state c.rule_versions.new.site) (omega arith) (omega (arith, groups, pages))
    (few_then sizes.blocks (9 * sizes.groups) 0 (segment_slots c.geometry-geometry.result) sizes.blocks (9 * sizes.groups + segment_slots sizes) (g.S.Site.state c.args.site.now) (g.S.Site.state c.rule_groups.new.site) (g.S.Site.state c.rule_segments.new.site) (omega arith) (omega (arith, groups, pages))
    (few_then sizes.blocks 0 0 (9 * c.geometry-geometry.result.groups) sizes.blocks (9 * sizes.groups) (g.S.Site.state c.args.site.now) (g.S.Site.state c.rule_blocks.new.site) (g.S.Site.state c.rule_groups.new.site) (omega arith) (omega (arith, groups, pages))
    (few_more _ 0 sizes.blocks 0 (g.S.Site.state c.args.site.now) (g.S.Site.state c.rule_blocks.new.site) (omega arith) (omega arith) c.rule_blocks.ensures.looks) c.rule_groups.ensures.looks) c.rule_segments.ensures.looks) c.rule_versions.ensures.looks
