use Rattle.flash_cache.proofs.Names.{◌+◌, ◌*◌, ℕ, take, drop, sym, ◌∙◌, ap, length-replicate, region, RingFits, hi_of, units_of, unit_at, Shape}
use Rattle.flash_cache.proofs.Fetching.{page_fetched, goes_on_marked, goes_on_ended, holds_marked}
use Rattle.flash_cache.proofs.cache.FlashCache.fetch.Goals as goal

pub returns-in_default-read_part-clause-going : goal.returns-in_default-read_part-clause-going
returns-in_default-read_part-clause-going g c =
    goes_on_ended c.args.self.now (g.S.Site.state c.args.site.now) (g.S.Site.state c.read_part.new.site) c.requires c.read_part.ensures.reads.preserves

pub returns-clause-going : goal.returns-clause-going
returns-clause-going g c =
    goes_on_marked c.args.self.now c.args.page c.set_referenced.new.self (g.S.Site.state c.args.site.now) (g.S.Site.state c.read_part.new.site) c.requires c.read_part.ensures.reads.preserves c.set_referenced.ensures

pub returns-clause-holds : goal.returns-clause-holds
returns-clause-holds g c groups fits holds =
    holds_marked c.args.self.now c.args.page c.set_referenced.new.self (g.S.Site.state c.args.site.now).image (g.S.Site.state c.read_part.new.site).image groups holds (c.read_part.ensures.reads.same fits.honest).image c.set_referenced.ensures

pub returns-clause-fetched : goal.returns-clause-fetched
returns-clause-fetched g c groups fits holds found =
    let old = g.S.Site.state c.args.site.now in
    let cache = c.args.self.now in
    let at = 128 + 4096 * c.in-Some.place.index in
    let ring_fits : RingFits cache.ring old = fits.hi ∙ sym (ap (λ (s : Shape). hi_of s (region s old)) c.requires.rings.groups_shape) in
    c.from_bytes.ensures ∙ c.in-Ok.ensures.part fits.honest ring_fits
    ∙ ap (λ (n : ℕ). take n (drop at (unit_at cache.ring.shape (units_of cache.ring.shape (region cache.ring.shape old)) c.in-Some.place.group))) (length-replicate {A = ℕ} 4096 0)
    ∙ ap (λ (s : Shape). take 4096 (drop at (unit_at s (units_of s (region s old)) c.in-Some.place.group))) c.requires.rings.groups_shape
    ∙ page_fetched cache.geometry cache.directory groups old.image c.args.page c.in-Some.place holds.has holds.shown (sym c.in-Some.is ∙ c.newest.ensures.newest)
