use Rattle.flash_cache.proofs.Names.{◌≡◌, ℕ, ◌+◌, List, length, ◌++◌, ◌∷◌, [], sym, ◌∙◌, ap, arith, page_at, region, units_in, RingFits, hi_of, unit_at, stays_honest, State, Image, Flash}
use Rattle.std.proofs.lemmas.List.{length-append}
use Rattle.sealed_ring.proofs.Lookups.{reads_then, reads_answered}
use Rattle.flash_cache.proofs.Gathering.{mapped_more}
use Rattle.flash_cache.proofs.leaving.contents_at.Goals as goal

pub loop-index-preserved : goal.loop-index-preserved
loop-index-preserved g c =
    let old = g.S.Site.state c.args.site.now in
    let mid = g.S.Site.state c.loop-index.site in
    let new = g.S.Site.state c.read_frame.new.site in
    let ring = c.args.ring.now in
    let group = c.args.group in
    let inv = c.loop-index.invariant in
    let items = c.in_ok-push.ensures.items in
    let list = c.loop-index.contents.items in
    let longer : length c.push.new.self.items ≡ length list + 1 = ap length items ∙ length-append list (c.in-Ok.page ∷ []) in
    record {
      contents = λ honest fits.
          let same = inv.reads.same honest in
          let unit : State → List ℕ = λ (s : State). unit_at ring.shape (units_in ring.shape s) group in
          let fits_mid : RingFits ring mid = fits ∙ ap (λ (i : Image). hi_of ring.shape (region ring.shape (record old { image = i }))) (sym same.image) in
          let is = c.in-Ok.ensures.page (stays_honest old mid inv.reads.preserves honest) fits_mid in
          let unit_is : unit mid ≡ unit old = ap (λ (i : Image). unit_at ring.shape (units_in ring.shape (record old { image = i })) group) same.image in
          items
          ∙ (λ i. inv.contents honest fits i ++ (is ∙ ap (λ (u : List ℕ). page_at u c.at.result) unit_is) i ∷ [])
          ∙ sym (mapped_more (page_at (unit old)) c.args.places.now c.loop-index.index c.at.result c.at.ensures);
      count = longer ∙ ap (λ (n : ℕ). n + 1) inv.count;
      reads = reads_answered c.in-Ok.page tt Flash (c.loop-index.index + 1) _ old new (omega arith) (reads_then tt _ Flash c.loop-index.index 1 (c.loop-index.index + 1) old mid new (omega arith) inv.reads c.in-Ok.ensures.reads);
    }
