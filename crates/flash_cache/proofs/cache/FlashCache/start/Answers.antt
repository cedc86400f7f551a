use Rattle.flash_cache.proofs.Names.{◌≡◌, List, map, false, sym, ◌∙◌, ap, subst, arith, rules, All, AreGroupHeads, FrameHead, HasGroups, AreSaved, Invariant, Represents, FlashCache, frames_in, group_shape, segment_shape, region, IsRing, hi_of, Shape, Queue, stays_honest, lengths_later, Image, first_is}
use Rattle.flash_cache.proofs.Queues.{err_again}
use Rattle.flash_cache.proofs.Standing.{known_groups, all_shown, sizes_known, exist_known, length-mapped}
use Rattle.flash_cache.proofs.cache.FlashCache.start.Goals as goal

pub of_groups-requires-clause-groups : goal.of_groups-requires-clause-groups
of_groups-requires-clause-groups g c k d lt =
    let items : c.as_slice.result.now ≡ c.in-Ok.heads.list = search rules in
    subst (All (λ heads. AreGroupHeads heads)) (sym items) (λ k d lt. (c.in-Ok.ensures.start.are_heads k d lt).are_heads) k d lt

pub returns-in-Err-clause-foreign : goal.returns-in-Err-clause-foreign
returns-in-Err-clause-foreign g c says honest first groups has saved = c.in-Err.ensures.foreign (err_again _ _ says) honest first groups saved.segments has saved.follow

pub returns-clause-fits : goal.returns-clause-fits
returns-clause-fits g c honest first groups has saved =
    let old = g.S.Site.state c.args.site.now in
    let new = g.S.Site.state c.rebuild.new.site in
    let finds = c.in-Ok.ensures.finds honest first groups saved.segments has saved.follow in
    let rings = c.in-Ok.ensures.start.rings in
    let same = (c.in-Ok.ensures.reads.same honest).image in
    record {
      honest = stays_honest old new c.in-Ok.ensures.reads.preserves honest;
      form = subst (λ (i : Image). IsRing (group_shape c.args.geometry.now) i.flash) (sym same) has.form;
      hi = finds.groups_fit ∙ ap (λ (s : Shape). hi_of s (region s new)) rings.groups_shape;
      segments_form = subst (λ (i : Image). IsRing (segment_shape c.args.geometry.now) i.flash) (sym same) saved.follow.has.form;
      segments_hi = finds.segments_fit ∙ ap (λ (s : Shape). hi_of s (region s new)) rings.segments_shape;
    }

pub returns-clause-queue : goal.returns-clause-queue
returns-clause-queue g c honest first groups has saved =
    let old = g.S.Site.state c.args.site.now in
    let new = g.S.Site.state c.rebuild.new.site in
    let geometry = c.args.geometry.now in
    let finds = c.in-Ok.ensures.finds honest first groups saved.segments has saved.follow in
    let shape = c.in-Ok.ensures.start.rings.groups_shape in
    let ring = c.in-Ok.heads.groups in
    let slots : ring.shape.slots ≡ geometry.groups = ap (λ (s : Shape). s.slots) shape in
    let hi : ring.hi ≡ hi_of (group_shape geometry) old.image.flash =
    finds.groups_fit ∙ ap (λ (s : Shape). hi_of s (region s new)) shape ∙ ap (λ (i : Image). hi_of (group_shape geometry) i.flash) (c.in-Ok.ensures.reads.same honest).image in
    let own = first_is geometry first groups old.image has in
    let oldest = c.oldest.ensures in
    let at : c.oldest.result ≡ first = omega (arith, oldest, hi, slots, own) in
    let items : c.as_slice.result.now ≡ c.in-Ok.heads.list = search rules in
    let same = ap (map frames_in) (items ∙ finds.list) ∙ known_groups groups in
    c.in-Ok-of_groups.ensures.ok ∙ (λ i. let q : Queue = record { first = at i; groups = same i } in q)

pub returns-clause-holds : goal.returns-clause-holds
returns-clause-holds g c honest first groups has saved =
    let new = g.S.Site.state c.rebuild.new.site in
    let geometry = c.args.geometry.now in
    let same = sym (c.in-Ok.ensures.reads.same honest).image in
    subst (λ (q : Queue). let cache : FlashCache = record { alloc = c.args.alloc; geometry = geometry; ring = c.in-Ok.heads.groups; segments = c.in-Ok.heads.segments; directory = q; ended = false } in Represents cache new.image groups)
    (sym (returns-clause-queue g c honest first groups has saved))
    (record { has = subst (HasGroups geometry first groups) same has; saved = subst (AreSaved geometry groups) same saved; shown = all_shown groups })

pub returns-clause-going : goal.returns-clause-going
returns-clause-going g c =
    let old = g.S.Site.state c.args.site.now in
    let new = g.S.Site.state c.rebuild.new.site in
    let geometry = c.args.geometry.now in
    let ring = c.in-Ok.heads.groups in
    let start = c.in-Ok.ensures.start in
    let slots : ring.shape.slots ≡ geometry.groups = ap (λ (s : Shape). s.slots) start.rings.groups_shape in
    let items : c.as_slice.result.now ≡ c.in-Ok.heads.list = search rules in
    let is = c.in-Ok-of_groups.ensures.ok ∙ ap (λ (l : List (List FrameHead)). let q : Queue = record { first = c.oldest.result; groups = map frames_in l } in q) items in
    let lists = c.in-Ok.heads.list in
    let many = length-mapped frames_in lists in
    let oldest = c.oldest.ensures in
    let count = start.count in
    subst (λ (q : Queue). let cache : FlashCache = record { alloc = c.args.alloc; geometry = geometry; ring = ring; segments = c.in-Ok.heads.segments; directory = q; ended = false } in Invariant cache new) (sym is) (record {
      limits = c.requires.limits;
      lengths = lengths_later geometry old new c.in-Ok.ensures.reads.preserves c.requires.lengths;
      rings = start.rings;
      next = omega (arith, oldest, count, many, slots);
      few = let groups = c.requires.limits.groups in omega (arith, count, many, groups);
      sizes = sizes_known lists (λ k d lt. (start.are_heads k d lt).are_heads);
      exist = exist_known geometry.pages lists (λ k d lt. (start.are_heads k d lt).exist);
    })

pub returns-clause-is_next : goal.returns-clause-is_next
returns-clause-is_next g c honest =
    c.in-Ok.ensures.segments honest ∙ ap (λ (s : Shape). hi_of s (region s (g.S.Site.state c.rebuild.new.site))) c.in-Ok.ensures.start.rings.segments_shape
