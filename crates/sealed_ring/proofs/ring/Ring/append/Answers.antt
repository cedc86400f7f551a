use Rattle.sealed_ring.proofs.Names.{◌+◌, sym, region, LeavesOldOrNew, no_call, Leaves}
use Rattle.sealed_ring.proofs.Highest.{hi_is}
use Rattle.sealed_ring.proofs.Sealed.{seals_hi, sealed_outside}
use Rattle.sealed_ring.proofs.Stays.{quiet_again}
use Rattle.sealed_ring.proofs.Whole.{left_as_it_is, at_rest, form_of, ring_at}
use Rattle.sealed_ring.proofs.ring.Ring.append.Goals as goal

pub returns-then-self-eq-HI_MAX-clause-any_moment : goal.returns-then-self-eq-HI_MAX-clause-any_moment
returns-then-self-eq-HI_MAX-clause-any_moment g c honest ready =
    let s = c.args.self.now.shape in
    let old = g.S.Site.state c.args.site.now in
    no_call old (Leaves (LeavesOldOrNew s (region s old) c.args.content.now)) (left_as_it_is s c.args.content.now old ready.settled ready.form)

pub returns-in_default-clause-any_moment : goal.returns-in_default-clause-any_moment
returns-in_default-clause-any_moment g c honest ready =
    (c.seal.ensures.sealed honest).any_moment (at_rest c.args.self.now (g.S.Site.state c.args.site.now) ready)

pub returns-clause-any_moment : goal.returns-clause-any_moment
returns-clause-any_moment g c honest ready =
    (c.seal.ensures.sealed honest).any_moment (at_rest c.args.self.now (g.S.Site.state c.args.site.now) ready)

pub returns-clause-ready : goal.returns-clause-ready
returns-clause-ready g c honest finds =
    let sealed = c.in-Ok.ensures.sealed honest in
    let ring = c.args.self.now in
    let form = sealed.form (form_of ring (g.S.Site.state c.args.site.now) finds) in
    let there = region ring.shape (g.S.Site.state c.seal.new.site) in
    let slots = c.requires.usable.fits.slots in
    record {
      settled = sealed.settled;
      form = ring_at ring.shape (ring.hi + 1) there slots form;
      hi = sym (hi_is ring.shape (ring.hi + 1) there slots form);
    }

pub returns-clause-stands : goal.returns-clause-stands
returns-clause-stands g c honest finds =
    (c.in-Ok.ensures.sealed honest).stands (form_of c.args.self.now (g.S.Site.state c.args.site.now) finds)

pub returns-clause-outside : goal.returns-clause-outside
returns-clause-outside g c honest =
    let s = c.args.self.now.shape in
    sealed_outside s c.args.self.now.hi c.args.content.now (region s (g.S.Site.state c.args.site.now)) (region s (g.S.Site.state c.seal.new.site)) c.requires.usable.fits (c.in-Ok.ensures.sealed honest).seals

pub returns-clause-fits : goal.returns-clause-fits
returns-clause-fits g c honest fits =
    let s = c.args.self.now.shape in
    let old = g.S.Site.state c.args.site.now in
    let new = g.S.Site.state c.seal.new.site in
    seals_hi s c.args.self.now.hi c.args.content.now (region s old) (region s new) c.requires.usable.fits (c.in-Ok.ensures.sealed honest).seals fits

pub returns-clause-quiet : goal.returns-clause-quiet
returns-clause-quiet g c honest quiet =
    let sealed = c.in-Ok.ensures.sealed honest in
    quiet_again c.args.self.now.shape.dev (g.S.Site.state c.args.site.now) (g.S.Site.state c.seal.new.site) sealed.changes quiet sealed.settled
