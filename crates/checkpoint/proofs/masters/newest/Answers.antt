use Rattle.checkpoint.proofs.Names.{◌∙◌, sym, ap, region, hi_of, stays_honest, Image}
use Rattle.checkpoint.proofs.Standing.{finds_still, ready_still}
use Rattle.checkpoint.proofs.masters.newest.Goals as goal

pub returns-clause-found : goal.returns-clause-found
returns-clause-found g c honest form =
    let old = g.S.Site.state c.args.site.now in
    let mid = g.S.Site.state c.scan.new.site in
    finds_still c.in_ok-ring.ring old mid (g.S.Site.state c.master_on.new.site) (c.in_ok-ring.ensures.shape ∙ c.shape.ensures) (c.scan.ensures.reads.same honest)
    (c.master_on.ensures.reads.same (stays_honest old mid c.scan.ensures.reads.preserves honest)) form (c.in_ok-ring.ensures.fits honest)

pub returns-clause-ready : goal.returns-clause-ready
returns-clause-ready g c honest settled form =
    let old = g.S.Site.state c.args.site.now in
    let mid = g.S.Site.state c.scan.new.site in
    ready_still c.in_ok-ring.ring old mid (g.S.Site.state c.master_on.new.site) (c.in_ok-ring.ensures.shape ∙ c.shape.ensures) (c.scan.ensures.reads.same honest)
    (c.master_on.ensures.reads.same (stays_honest old mid c.scan.ensures.reads.preserves honest)) settled form (c.in_ok-ring.ensures.fits honest)

pub returns-clause-fits : goal.returns-clause-fits
returns-clause-fits g c honest =
    let mid = g.S.Site.state c.scan.new.site in
    let ring = c.in_ok-ring.ring in
    c.in_ok-ring.ensures.fits honest ∙ ap (λ (i : Image). hi_of ring.shape (region ring.shape (record mid { image = i })))
    (sym (c.master_on.ensures.reads.same (stays_honest (g.S.Site.state c.args.site.now) mid c.scan.ensures.reads.preserves honest)).image)
