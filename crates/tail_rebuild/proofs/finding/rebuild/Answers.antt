use Rattle.tail_rebuild.proofs.Names.{◌≡◌, map, sym, ◌∙◌, ap, subst, arith, length-map, heads_of, group_shape, IsNear, region, RingFits, hi_of, Shape, stays_honest, err_again, HasGroups, HasSaved}
use Rattle.tail_rebuild.proofs.Lists.{front_whole}
use Rattle.tail_rebuild.proofs.Saved.{near_segments}
use Rattle.tail_rebuild.proofs.Standing.{fits_again, first_is}
use Rattle.tail_rebuild.proofs.finding.rebuild.Goals as goal

pub returns-in-Err-list_segments-clause-foreign : goal.returns-in-Err-list_segments-clause-foreign
returns-in-Err-list_segments-clause-foreign g c says honest first stand saved has holds =
    let geometry = c.args.geometry.now in
    let old = g.S.Site.state c.args.site.now in
    let one = g.S.Site.state c.scan.new.site in
    let two = g.S.Site.state c.scan_near.new.site in
    let segments = c.in-Ok.segments in
    let groups = c.in-Ok-scan_near.groups in
    let honest_one = stays_honest old one c.in-Ok.ensures.reads.preserves honest in
    let same_one = (c.in-Ok.ensures.reads.same honest).image in
    let same_two = (c.in-Ok-scan_near.ensures.reads.same honest_one).image in
    let segments_fit : RingFits segments one = c.in-Ok.ensures.fits honest in
    let near = near_segments geometry segments one first stand saved c.group_shape.result c.group_shape.ensures (c.in-Ok.ensures.shape ∙ c.segment_shape.ensures) segments_fit
    (subst (HasGroups geometry first stand) (sym same_one) has) (subst (HasSaved geometry stand saved) (sym same_one) holds) in
    let groups_fit : RingFits groups two = c.in-Ok-scan_near.ensures.fits honest_one (subst (IsNear c.group_shape.result (region c.group_shape.result one)) (omega (arith, c.hi-2.ensures)) near) in
    c.in-Err-list_segments.ensures.foreign (err_again _ _ says) (stays_honest one two c.in-Ok-scan_near.ensures.reads.preserves honest_one) (fits_again segments one two same_two segments_fit) groups_fit
    first stand saved (subst (HasGroups geometry first stand) (sym (same_two ∙ same_one)) has) (subst (HasSaved geometry stand saved) (sym (same_two ∙ same_one)) holds)

pub returns-in-Err-list_tail-clause-foreign : goal.returns-in-Err-list_tail-clause-foreign
returns-in-Err-list_tail-clause-foreign g c says honest first stand saved has holds =
    let geometry = c.args.geometry.now in
    let old = g.S.Site.state c.args.site.now in
    let one = g.S.Site.state c.scan.new.site in
    let two = g.S.Site.state c.scan_near.new.site in
    let segments = c.in-Ok.segments in
    let groups = c.in-Ok-scan_near.groups in
    let honest_one = stays_honest old one c.in-Ok.ensures.reads.preserves honest in
    let same_one = (c.in-Ok.ensures.reads.same honest).image in
    let same_two = (c.in-Ok-scan_near.ensures.reads.same honest_one).image in
    let segments_fit : RingFits segments one = c.in-Ok.ensures.fits honest in
    let near = near_segments geometry segments one first stand saved c.group_shape.result c.group_shape.ensures (c.in-Ok.ensures.shape ∙ c.segment_shape.ensures) segments_fit
    (subst (HasGroups geometry first stand) (sym same_one) has) (subst (HasSaved geometry stand saved) (sym same_one) holds) in
    let groups_fit : RingFits groups two = c.in-Ok-scan_near.ensures.fits honest_one (subst (IsNear c.group_shape.result (region c.group_shape.result one)) (omega (arith, c.hi-2.ensures)) near) in
    let three = g.S.Site.state c.list_segments.new.site in
    let honest_two = stays_honest one two c.in-Ok-scan_near.ensures.reads.preserves honest_one in
    let same_three = (c.in_default.ensures.reads.same honest_two).image in
    c.in-Err-list_tail.ensures.foreign (err_again _ _ says) (stays_honest two three c.in_default.ensures.reads.preserves honest_two) (fits_again groups two three same_three groups_fit)
    first stand (subst (HasGroups geometry first stand) (sym (same_three ∙ same_two ∙ same_one)) has)

pub returns-clause-finds : goal.returns-clause-finds
returns-clause-finds g c honest first stand saved has holds =
    let geometry = c.args.geometry.now in
    let old = g.S.Site.state c.args.site.now in
    let one = g.S.Site.state c.scan.new.site in
    let two = g.S.Site.state c.scan_near.new.site in
    let segments = c.in-Ok.segments in
    let groups = c.in-Ok-scan_near.groups in
    let honest_one = stays_honest old one c.in-Ok.ensures.reads.preserves honest in
    let same_one = (c.in-Ok.ensures.reads.same honest).image in
    let same_two = (c.in-Ok-scan_near.ensures.reads.same honest_one).image in
    let segments_fit : RingFits segments one = c.in-Ok.ensures.fits honest in
    let near = near_segments geometry segments one first stand saved c.group_shape.result c.group_shape.ensures (c.in-Ok.ensures.shape ∙ c.segment_shape.ensures) segments_fit
    (subst (HasGroups geometry first stand) (sym same_one) has) (subst (HasSaved geometry stand saved) (sym same_one) holds) in
    let groups_fit : RingFits groups two = c.in-Ok-scan_near.ensures.fits honest_one (subst (IsNear c.group_shape.result (region c.group_shape.result one)) (omega (arith, c.hi-2.ensures)) near) in
    let three = g.S.Site.state c.list_segments.new.site in
    let four = g.S.Site.state c.list_tail.new.site in
    let honest_two = stays_honest one two c.in-Ok-scan_near.ensures.reads.preserves honest_one in
    let honest_three = stays_honest two three c.in_default.ensures.reads.preserves honest_two in
    let same_three = (c.in_default.ensures.reads.same honest_two).image in
    let same_four = (c.in_default-list_tail.ensures.reads.same honest_three).image in
    let has_three = subst (HasGroups geometry first stand) (sym (same_three ∙ same_two ∙ same_one)) has in
    let shape : groups.shape ≡ group_shape geometry = c.in-Ok-scan_near.ensures.shape ∙ c.group_shape.ensures in
    let begun = c.in_default.ensures.front honest_two (fits_again segments one two same_two segments_fit) groups_fit
    first stand saved (subst (HasGroups geometry first stand) (sym (same_two ∙ same_one)) has) (subst (HasSaved geometry stand saved) (sym (same_two ∙ same_one)) holds) in
    let front = c.in_default-list_tail.ensures.front honest_three (fits_again groups two three same_three groups_fit) first stand has_three begun in
    let hi : groups.hi ≡ hi_of (group_shape geometry) two.image.flash = groups_fit ∙ ap (λ (s : Shape). hi_of s (region s two)) shape in
    let has_two = subst (HasGroups geometry first stand) (sym (same_two ∙ same_one)) has in
    let own = first_is geometry first stand two.image has_two in
    let next = has_two.next in
    let count = c.in_default-list_tail.ensures.count in
    let size = length-map stand heads_of in
    record {
      groups_fit = fits_again groups two four (same_four ∙ same_three) groups_fit;
      segments_fit = fits_again segments one four (same_four ∙ same_three ∙ same_two) segments_fit;
      list = c.of_groups.ensures ∙ front_whole (map heads_of stand) c.list_tail.new.list.items front (omega (arith, hi, own, next, count, size));
    }

pub returns-clause-segments : goal.returns-clause-segments
returns-clause-segments g c honest =
    let one = g.S.Site.state c.scan.new.site in
    let two = g.S.Site.state c.scan_near.new.site in
    let three = g.S.Site.state c.list_segments.new.site in
    let four = g.S.Site.state c.list_tail.new.site in
    let honest_one = stays_honest (g.S.Site.state c.args.site.now) one c.in-Ok.ensures.reads.preserves honest in
    let honest_two = stays_honest one two c.in-Ok-scan_near.ensures.reads.preserves honest_one in
    let same_two = (c.in-Ok-scan_near.ensures.reads.same honest_one).image in
    let same_three = (c.in_default.ensures.reads.same honest_two).image in
    let same_four = (c.in_default-list_tail.ensures.reads.same (stays_honest two three c.in_default.ensures.reads.preserves honest_two)).image in
    fits_again c.in-Ok.segments one four (same_four ∙ same_three ∙ same_two) (c.in-Ok.ensures.fits honest)
