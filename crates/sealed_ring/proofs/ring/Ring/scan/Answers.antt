use Rattle.sealed_ring.proofs.Names.{ℕ, ◌%◌, sym, ◌∙◌, ap, arith, region, gate, stays_honest, content_of}
use Rattle.sealed_ring.specs.Ring.{number}
use Rattle.sealed_ring.proofs.Highest.{small_number}
use Rattle.sealed_ring.proofs.ring.Ring.scan.Goals as goal

pub returns-then-head-ge-HI_MAX-clause-foreign : goal.returns-then-head-ge-HI_MAX-clause-foreign
returns-then-head-ge-HI_MAX-clause-foreign g c says honest form =
    let old = g.S.Site.state c.args.site.now in
    let now = g.S.Site.state c.loop-slot.site in
    let honest-now = stays_honest old now c.loop-slot.invariant.reads.preserves honest in
    let there = ap (content_of c.args.shape.dev) (c.loop-slot.invariant.reads.same honest).image in
    let its_gate = c.in-Ok.ensures.gate honest-now ∙ ap (λ x. gate c.args.shape x c.loop-slot.slot) there in
    let its_number = c.in-Ok.ensures.number honest-now ∙ ap (λ x. number c.args.shape x c.loop-slot.slot) there in
    let small = small_number c.args.shape (region c.args.shape old) c.loop-slot.slot c.requires.slots form c.loop-slot-test.true (sym its_gate ∙ c.if-head.true) (ap (λ (n : ℕ). n % c.args.shape.slots) (sym its_number) ∙ c.if-head-shape.true) in
    omega (arith, small, its_number)
