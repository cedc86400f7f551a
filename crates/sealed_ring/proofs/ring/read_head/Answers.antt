use Rattle.sealed_ring.proofs.Names.{◌≡◌, ◌∙◌, ℕ, length, take, drop, ap, arith, region, place}
use Rattle.sealed_ring.proofs.Heads.{number_read}
use Rattle.sealed_ring.proofs.ring.read_head.Goals as goal

pub returns-clause-number : goal.returns-clause-number
returns-clause-number g c honest =
    let r = c.in-Ok.ensures.read honest in
    let nine : length c.read_at.new.into ≡ 9 = omega arith in
    c.get_u64.ensures ∙ number_read c.args.shape (region c.args.shape (g.S.Site.state c.args.site.now)) c.read_at.new.into c.args.slot
    (r.gives ∙ ap (λ (n : ℕ). take n (drop (place c.args.shape c.args.slot) (region c.args.shape (g.S.Site.state c.args.site.now)))) nine)
