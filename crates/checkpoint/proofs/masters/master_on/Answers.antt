use Rattle.checkpoint.proofs.Names.{◌<◌, arith, List, ℕ, sym, subst, Option, IsOf}
use Rattle.checkpoint.proofs.Standing.{ring_newest}
use Rattle.checkpoint.proofs.masters.master_on.Goals as goal

pub returns-in_default-clause-foreign : goal.returns-in_default-clause-foreign
returns-in_default-clause-foreign g c is honest finds m has =
    let some : 0 < c.hi-hi.result = omega arith in
    let reads = c.in_ok-read_unit.ensures.unit honest finds.hi in
    c.in_default.ensures.bad m
    (subst (λ (o : Option (List ℕ)). IsOf o m) (ring_newest c.args.ring.now (g.S.Site.state c.args.site.now) c.hi-hi.result c.read_unit.new.into c.requires.shape finds.hi c.hi-hi.ensures some reads) has)

pub returns-clause-master : goal.returns-clause-master
returns-clause-master g c honest fits =
    let some : 0 < c.hi-hi.result = omega arith in
    let reads = c.in_ok-read_unit.ensures.unit honest fits in
    subst (λ (o : Option (List ℕ)). IsOf o c.in-Ok.master)
    (sym (ring_newest c.args.ring.now (g.S.Site.state c.args.site.now) c.hi-hi.result c.read_unit.new.into c.requires.shape fits c.hi-hi.ensures some reads)) c.in-Ok.ensures.found
