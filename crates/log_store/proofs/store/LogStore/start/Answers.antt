use Rattle.log_store.proofs.Names.{◌-◌, ◌∙◌, ap, refl, region, hi_of, Shape}
use Rattle.log_store.proofs.GoingOn.{begins}
use Rattle.log_store.proofs.store.LogStore.start.Goals as goal

pub returns-clause-going : goal.returns-clause-going
returns-clause-going g c =
    begins _ (g.S.Site.state c.args.site.now) (g.S.Site.state c.scan.new.site) c.requires.limits c.requires.lengths c.scan.ensures.reads.preserves c.in_ok-ring.ensures.usable (c.in_ok-ring.ensures.shape ∙ c.shape_of.ensures)
    (c.oldest-kept.ensures ∙ ap (λ (s : Shape). c.in_ok-ring.ring.hi - (s.slots - 1)) (c.in_ok-ring.ensures.shape ∙ c.shape_of.ensures)) refl

pub returns-clause-is_next : goal.returns-clause-is_next
returns-clause-is_next g c honest =
    c.in_ok-ring.ensures.fits honest ∙ ap (λ (s : Shape). hi_of s (region s (g.S.Site.state c.scan.new.site))) (c.in_ok-ring.ensures.shape ∙ c.shape_of.ensures)
