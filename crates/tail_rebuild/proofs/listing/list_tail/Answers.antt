use Rattle.tail_rebuild.proofs.Names.{◌≡◌, ℕ, ◌+◌, ◌-◌, ◌<◌, List, [], ◌∷◌, ◌++◌, length, get_or, map, sym, ◌∙◌, ap, subst, arith, length-append, length-map, All-push, All, FrameHead, heads_of, group_shape, region, RingFits, hi_of, Shape, stays_honest, err_again, AreHeadsIn, IsFront, HasGroups}
use Rattle.tail_rebuild.proofs.Calling.{reads_then, reads_answered}
use Rattle.tail_rebuild.proofs.Lists.{front_more}
use Rattle.tail_rebuild.proofs.Standing.{fits_again, first_is}
use Rattle.tail_rebuild.proofs.listing.list_tail.Goals as goal

pub returns-in-Err-clause-foreign : goal.returns-in-Err-clause-foreign
returns-in-Err-clause-foreign g c says honest fits first stand has =
    let old = g.S.Site.state c.args.site.now in
    let mid = g.S.Site.state c.loop-group.site in
    let ring = c.args.groups.now in
    let same = c.loop-group.invariant.reads.same honest in
    let fits_mid : RingFits ring mid = fits_again ring old mid same.image fits in
    c.in-Err.ensures.foreign (err_again _ _ says) (stays_honest old mid c.loop-group.invariant.reads.preserves honest) fits_mid first stand (subst (HasGroups c.args.geometry.now first stand) (sym same.image) has)

pub returns-clause-count : goal.returns-clause-count
returns-clause-count g c =
    let slots : c.args.groups.now.shape.slots ≡ c.args.geometry.now.groups = ap (λ (s : Shape). s.slots) c.requires.shape in
    omega (arith, slots, c.loop-group.invariant.count, c.loop-group.invariant.least, c.loop-group-test.false, c.loop-group.auto.group-end, c.requires.begun)

pub returns-clause-reads : goal.returns-clause-reads
returns-clause-reads g c =
    let slots : c.args.groups.now.shape.slots ≡ c.args.geometry.now.groups = ap (λ (s : Shape). s.slots) c.requires.shape in
    reads_answered tt tt (length c.loop-group.list.items - length c.args.list.now.items) _ (g.S.Site.state c.args.site.now) (g.S.Site.state c.loop-group.site)
    (omega (arith, slots, c.loop-group.invariant.count, c.loop-group.auto.group-end, c.requires.begun, c.loop-group.auto.group)) c.loop-group.invariant.reads

pub loop-group-preserved : goal.loop-group-preserved
loop-group-preserved g c =
    let old = g.S.Site.state c.args.site.now in
    let mid = g.S.Site.state c.loop-group.site in
    let new = g.S.Site.state c.read_group.new.site in
    let inv = c.loop-group.invariant in
    let list = c.loop-group.list.items in
    let heads = c.in-Ok.heads in
    let ring = c.args.groups.now in
    let geometry = c.args.geometry.now in
    let items : c.push.new.self.items ≡ list ++ heads ∷ [] = c.in-Ok-push.ensures.items in
    let longer : length c.push.new.self.items ≡ length list + 1 = ap length items ∙ length-append list (heads ∷ []) in
    record {
      least = omega (arith, inv.least, longer);
      count = omega (arith, inv.count, longer);
      listed = subst (λ (l : List (List FrameHead)). All (AreHeadsIn geometry.pages) l) (sym items) (All-push (AreHeadsIn geometry.pages) list heads inv.listed c.in-Ok.ensures.are_heads);
      front = λ honest fits first stand has begun.
          let same = inv.reads.same honest in
          let slots : ring.shape.slots ≡ geometry.groups = ap (λ (s : Shape). s.slots) c.requires.shape in
          let hi : ring.hi ≡ hi_of (group_shape geometry) old.image.flash = fits ∙ ap (λ (s : Shape). hi_of s (region s old)) c.requires.shape in
          let own = first_is geometry first stand old.image has in
          let next = has.next in
          let at : c.loop-group.group - first ≡ length list = omega (arith, inv.count, hi, slots, own) in
          let less : length list < length (map heads_of stand) = let all = length-map stand heads_of in omega (arith, all, inv.count, c.loop-group-test.true, c.loop-group.auto.group-end, hi, slots, own, next) in
          let fits_mid : RingFits ring mid = fits_again ring old mid same.image fits in
          let is : heads ≡ get_or (map heads_of stand) (length list) [] =
          c.in-Ok.ensures.heads (stays_honest old mid inv.reads.preserves honest) fits_mid first stand (subst (HasGroups geometry first stand) (sym same.image) has)
          ∙ ap (λ (k : ℕ). get_or (map heads_of stand) k []) at in
          subst (IsFront (map heads_of stand)) (sym items) (front_more (map heads_of stand) list heads (inv.front honest fits first stand has begun) less is);
      reads = reads_answered heads tt (length list - length c.args.list.now.items + 1) _ old new (omega (arith, inv.least, longer))
          (reads_then tt _ (length list - length c.args.list.now.items) 1 (length list - length c.args.list.now.items + 1) old mid new (omega arith) inv.reads c.in-Ok.ensures.reads);
    }
