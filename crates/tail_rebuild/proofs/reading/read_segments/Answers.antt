use Rattle.tail_rebuild.proofs.Names.{arith}
use Rattle.tail_rebuild.proofs.Calling.{ok_both}
use Rattle.tail_rebuild.proofs.Saved.{hold_segments}
use Rattle.tail_rebuild.proofs.reading.read_segments.Goals as goal

pub returns-clause-hold : goal.returns-clause-hold
returns-clause-hold g c honest fits segments has =
    let ring = c.args.ring.now in
    let site = g.S.Site.state c.args.site.now in
    ok_both c.read_units.result _ _ _ c.read_units.ensures.count (c.read_units.ensures.units honest fits) (λ count is have.
    hold_segments c.args.geometry.now ring site c.args.segment count segments c.requires.shape fits c.requires.live (omega (arith, is, c.requires.live.below)) has c.read_units.new.into have)
