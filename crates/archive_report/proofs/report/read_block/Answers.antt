use Rattle.archive_report.proofs.Names.{List, ℕ, take, sym, ◌∙◌, ap, arith, take-take, region, units_in, unit_at, Shape}
use Rattle.archive_report.proofs.LiveBlocks.{unit_whole}
use Rattle.archive_report.proofs.report.read_block.Goals as goal

pub returns-in-Ok-clause-block : goal.returns-in-Ok-clause-block
returns-in-Ok-clause-block g c honest finds =
    let old = g.S.Site.state c.args.site.now in
    let ring = c.args.ring.now in
    let unit : List ℕ = unit_at ring.shape (units_in ring.shape old) c.args.number in
    c.copy_from_slice.ensures.after ∙ ap (take 503) (c.in-Ok.ensures.unit honest finds.hi) ∙ take-take 503 503 unit (omega arith)
    ∙ ap (λ (n : ℕ). take n unit) (sym (ap (λ (s : Shape). s.room) c.requires.ring.shape))
    ∙ unit_whole ring.shape ring.hi c.args.number (region ring.shape old) c.requires.ring.usable.fits.slots finds.hi c.requires.live
