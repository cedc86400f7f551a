use Rattle.flash_cache.proofs.Names.{◌≡◌, Bool, refl, ◌∙◌, ap, sym, subst, rules, ◌^◌, frames_in, region, SameOutside, Ring, Shape, pushed, stays_honest, no_error}
use Rattle.flash_cache.proofs.NextSegments.{segments_beside, spent_at_end}
use Rattle.flash_cache.proofs.Pushing.{goes_on_same, goes_on_pushed, full_is, ring_found, fits_again, append_is}
use Rattle.flash_cache.proofs.cache.FlashCache.append.Goals as goal

pub returns-clause-ok : goal.returns-clause-ok
returns-clause-ok g c =
    let cache = c.args.self.now in
    c.in_default.ensures.ok ∙ ap (λ (b : Bool). pushed b (frames_in c.args.heads.now) cache.directory) (full_is cache c.is_full-full.result c.requires.going.few c.is_full-full.ensures)

pub returns-clause-appends : goal.returns-clause-appends
returns-clause-appends g c fits =
    let cache = c.args.self.now in
    let old = g.S.Site.state c.args.site.now in
    let finds = ring_found cache old c.requires.going.rings.groups_shape fits in
    append_is cache c.append.new.self c.args.content.now old (g.S.Site.state c.append.new.site) c.requires.going c.requires.room c.append.ensures.preserves c.append.ensures.shape
    (c.in_ok-append.ensures.ready fits.honest finds) (c.in_ok-append.ensures.outside fits.honest) (c.append.ensures.changes fits.honest).only (c.in_ok-append.ensures.stands fits.honest finds)

pub returns-in_err-append-clause-keeps : goal.returns-in_err-append-clause-keeps
returns-in_err-append-clause-keeps g c =
    let cache = c.args.self.now in
    let old = g.S.Site.state c.args.site.now in
    let new = g.S.Site.state c.append.new.site in
    record {
      ends = search rules;
      fits = λ fits. search rules;
      next_segment = λ honest. record {
        next = λ is. search rules;
        worn = λ is says. let full : cache.ring.hi ≡ 2 ^ 40 = search rules in spent_at_end cache old new c.requires.going is full (ap g.S.Site.state (c.append.ensures.unchanged full));
      };
      going = goes_on_same cache c.append.new.self cache.directory old new c.requires.going c.append.ensures.preserves c.append.ensures.shape (ap (λ (r : Ring). r.hi) c.in_err-append.ensures.err) refl;
      worn_end = λ fits says. search rules;
    }

pub returns-in-Err-clause-keeps : goal.returns-in-Err-clause-keeps
returns-in-Err-clause-keeps g c =
    let ring : Ring = record { shape = c.append.new.self.shape; hi = c.hi-hi.result; ended = c.append.new.self.ended } in
    record {
      ends = search rules;
      fits = λ fits. tt;
      next_segment = λ honest. record { next = λ is. tt; worn = search rules };
      going = goes_on_same c.args.self.now ring c.push_group.new.self (g.S.Site.state c.args.site.now) (g.S.Site.state c.append.new.site) c.requires.going c.append.ensures.preserves
          c.append.ensures.shape c.hi-hi.ensures c.in-Err.ensures.err;
      worn_end = λ fits says. search rules;
    }

pub returns-clause-keeps : goal.returns-clause-keeps
returns-clause-keeps g c =
    let cache = c.args.self.now in
    let old = g.S.Site.state c.args.site.now in
    let new = g.S.Site.state c.append.new.site in
    let going = c.requires.going in
    let goes = c.append.ensures.preserves in
    let shape = c.append.ensures.shape in
    record {
      ends = search rules;
      fits = λ fits.
          fits_again cache c.append.new.self c.push_group.new.self c.args.content.now old new (shape ∙ going.rings.groups_shape) (stays_honest old new goes fits.honest)
          (c.in_ok-append.ensures.ready fits.honest (ring_found cache old going.rings.groups_shape fits)) (returns-clause-appends g c fits) fits;
      next_segment = λ honest. record {
        next = λ is. is ∙ sym (segments_beside cache.geometry old new going.limits going.lengths goes
            (subst (λ (s : Shape). SameOutside s (region s old) (region s new)) going.rings.groups_shape (c.in_ok-append.ensures.outside honest)));
        worn = λ is says. absurd (no_error says);
      };
      going = goes_on_pushed cache c.args.heads.now c.append.new.self c.push_group.new.self old new going goes
          c.requires.heads c.requires.exist shape (ap (λ (r : Ring). r.hi) c.in_ok-append.ensures.ok) c.append.ensures.usable (returns-clause-ok g c) c.requires.none_due;
      worn_end = λ fits says. absurd (no_error says);
    }
