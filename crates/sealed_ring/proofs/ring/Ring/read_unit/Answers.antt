use Rattle.sealed_ring.proofs.Names.{◌≡◌, ℕ, ◌+◌, ◌-◌, ◌%◌, length, take, drop, sym, ◌∙◌, ap, arith, region, place}
use Rattle.sealed_ring.proofs.Heads.{number_front, content_front, unit_is}
use Rattle.sealed_ring.proofs.ring.Ring.read_unit.Goals as goal

pub returns-then-get_u64-n-clause-foreign : goal.returns-then-get_u64-n-clause-foreign
returns-then-get_u64-n-clause-foreign g c says honest own =
    let s = c.args.self.now.shape in
    let there = region s (g.S.Site.state c.args.site.now) in
    let long : length c.read_at.new.into ≡ length c.args.into.now = omega arith in
    let is : c.read_at.new.into ≡ take (length c.args.into.now) (drop (place s (c.args.n % s.slots) + 1) there) =
    (c.in-Ok.ensures.read honest).gives ∙ ap (λ (k : ℕ). take k (drop (place s (c.args.n % s.slots) + 1) there)) long in
    let has = c.get_u64.ensures ∙ number_front s there c.read_at.new.into (c.args.n % s.slots) (length c.args.into.now) c.requires.number is in
    c.if-get_u64-n.true (has ∙ own)

pub returns-clause-unit : goal.returns-clause-unit
returns-clause-unit g c honest hi =
    let s = c.args.self.now.shape in
    let there = region s (g.S.Site.state c.args.site.now) in
    let long : length c.read_at.new.into ≡ length c.args.into.now = omega arith in
    let is : c.read_at.new.into ≡ take (length c.args.into.now) (drop (place s (c.args.n % s.slots) + 1) there) =
    (c.in-Ok.ensures.read honest).gives ∙ ap (λ (k : ℕ). take k (drop (place s (c.args.n % s.slots) + 1) there)) long in
    content_front s there c.read_at.new.into (c.args.n % s.slots) (length c.args.into.now) c.requires.number c.requires.room is
    ∙ ap (take (length c.args.into.now - 8)) (sym (unit_is s c.args.self.now.hi c.args.n there c.requires.usable.fits.slots hi c.requires.live))

pub returns-clause-own : goal.returns-clause-own
returns-clause-own g c honest =
    let s = c.args.self.now.shape in
    let there = region s (g.S.Site.state c.args.site.now) in
    let long : length c.read_at.new.into ≡ length c.args.into.now = omega arith in
    let is : c.read_at.new.into ≡ take (length c.args.into.now) (drop (place s (c.args.n % s.slots) + 1) there) =
    (c.in-Ok.ensures.read honest).gives ∙ ap (λ (k : ℕ). take k (drop (place s (c.args.n % s.slots) + 1) there)) long in
    sym (number_front s there c.read_at.new.into (c.args.n % s.slots) (length c.args.into.now) c.requires.number is) ∙ sym c.get_u64.ensures ∙ c.if-get_u64-n.false
