use Rattle.sealed_ring.proofs.Names.{◌≡◌, ℕ, ◌+◌, ◌%◌, List, length, take, drop, sym, ◌∙◌, ap, arith, region, place}
use Rattle.sealed_ring.proofs.Heads.{part_front, unit_is}
use Rattle.sealed_ring.proofs.ring.Ring.read_part.Goals as goal

pub returns-clause-part : goal.returns-clause-part
returns-clause-part g c honest hi =
    let s = c.args.self.now.shape in
    let there = region s (g.S.Site.state c.args.site.now) in
    let k = length c.args.into.now in
    let j = c.args.n % s.slots in
    let long : length c.read_at.new.into ≡ k = omega arith in
    (c.in-Ok.ensures.read honest).gives ∙ ap (λ (n : ℕ). take n (drop (place s j + 9 + c.args.at) there)) long
    ∙ part_front s there j c.args.at k c.requires.inside
    ∙ ap (λ (l : List ℕ). take k (drop c.args.at l)) (sym (unit_is s c.args.self.now.hi c.args.n there c.requires.usable.fits.slots hi c.requires.live))
