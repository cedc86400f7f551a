use Rattle.tail_rebuild.proofs.Names.{◌+◌, ◌-◌, ◌/◌, ◌≤◌, map, sym, subst, arith, heads_of, RingFits, stays_honest, HasSegments}
use Rattle.meta_segments.specs.Following.{heads_with}
use Rattle.tail_rebuild.proofs.Calling.{reads_then, reads_answered}
use Rattle.tail_rebuild.proofs.Standing.{fits_again}
use Rattle.tail_rebuild.proofs.Saved.{row_goes_on, row_exists}
use Rattle.tail_rebuild.proofs.listing.list_segments.Goals as goal

pub returns-in-Err-list_row-clause-foreign : goal.returns-in-Err-list_row-clause-foreign
returns-in-Err-list_row-clause-foreign g c says honest segments_fit groups_fit first stand saved has holds =
    let old = g.S.Site.state c.args.site.now in
    let mid = g.S.Site.state c.loop-segment.site in
    let inv = c.loop-segment.invariant in
    let segment = c.loop-segment.segment in
    let same = inv.reads.same honest in
    let ring = c.args.segments.now in
    let fits_mid : RingFits ring mid = fits_again ring old mid same.image segments_fit in
    let hold = c.in-Ok.ensures.hold (stays_honest old mid inv.reads.preserves honest) fits_mid saved (subst (HasSegments c.args.geometry.now saved) (sym same.image) holds.has) in
    c.in-Err-list_row.ensures.foreign says (λ i. heads_with ring.hi saved (segment + i)) hold
    (row_exists c.args.geometry.now c.args.groups.now ring old first c.oldest-first.result segment c.in-Ok.count stand saved c.requires.rings groups_fit segments_fit has holds c.oldest-first.ensures inv.least
    (omega (arith, c.in-Ok.ensures.count, c.loop-segment-test.true)))

pub loop-segment-preserved : goal.loop-segment-preserved
loop-segment-preserved g c =
    let old = g.S.Site.state c.args.site.now in
    let mid = g.S.Site.state c.loop-segment.site in
    let new = g.S.Site.state c.read_segments.new.site in
    let inv = c.loop-segment.invariant in
    let first = c.oldest-first.result in
    let segment = c.loop-segment.segment in
    let count = c.in-Ok.count in
    let ring = c.args.segments.now in
    let most : segment + count ≤ ring.hi = omega (arith, c.in-Ok.ensures.count, c.loop-segment-test.true) in
    record {
      least = omega (arith, inv.least);
      most = omega (arith, most);
      listed = c.in_default.ensures.listed;
      count = c.in_default.ensures.more;
      front = λ honest segments_fit groups_fit number stand saved has holds.
          let same = inv.reads.same honest in
          let fits_mid : RingFits ring mid = fits_again ring old mid same.image segments_fit in
          let hold = c.in-Ok.ensures.hold (stays_honest old mid inv.reads.preserves honest) fits_mid saved (subst (HasSegments c.args.geometry.now saved) (sym same.image) holds.has) in
          c.in_default.ensures.front (map heads_of stand) (λ i. heads_with ring.hi saved (segment + i)) hold
          (row_goes_on c.args.geometry.now c.args.groups.now ring old number first segment count stand saved c.requires.rings groups_fit segments_fit has holds c.oldest-first.ensures inv.least most)
          (inv.front honest segments_fit groups_fit number stand saved has holds);
      reads = reads_answered count tt (segment - first / 4 + count) _ old new (omega (arith, inv.least))
          (reads_then tt _ (segment - first / 4) _ (segment - first / 4 + count) old mid new (omega (arith, c.in-Ok.ensures.count)) inv.reads c.in-Ok.ensures.reads);
    }
