use Rattle.tail_rebuild.proofs.Names.{◌-◌, List, sym, ◌∙◌, true≢false, subst, FrameHead, PagesExist}
use Rattle.tail_rebuild.proofs.Standing.{group_read, heads_are, place_of, heads_at_exist}
use Rattle.tail_rebuild.proofs.reading.read_group.Goals as goal

pub returns-in_default-clause-foreign : goal.returns-in_default-clause-foreign
returns-in_default-clause-foreign g c says honest fits first groups has =
    c.in_default.ensures.bad _ (group_read c.args.geometry.now c.args.ring.now (g.S.Site.state c.args.site.now) c.args.group first groups c.read_unit.new.into c.requires.shape fits c.requires.live has
    (c.in_ok-read_unit.ensures.unit honest fits))

pub returns-then-pages_exist-clause-heads : goal.returns-then-pages_exist-clause-heads
returns-then-pages_exist-clause-heads g c honest fits first groups has =
    heads_are _ c.in-Ok.heads _ c.in-Ok.ensures.found (group_read c.args.geometry.now c.args.ring.now (g.S.Site.state c.args.site.now) c.args.group first groups c.read_unit.new.into c.requires.shape fits c.requires.live has
    (c.in_ok-read_unit.ensures.unit honest fits))

pub returns-else-pages_exist-clause-foreign : goal.returns-else-pages_exist-clause-foreign
returns-else-pages_exist-clause-foreign g c says honest fits first groups has =
    let old = g.S.Site.state c.args.site.now in
    let geometry = c.args.geometry.now in
    let is = heads_are _ c.in-Ok.heads _ c.in-Ok.ensures.found (group_read geometry c.args.ring.now old c.args.group first groups c.read_unit.new.into c.requires.shape fits c.requires.live has
    (c.in_ok-read_unit.ensures.unit honest fits)) in
    let place = place_of geometry c.args.ring.now old c.args.group first groups c.requires.shape fits c.requires.live has in
    let exist : PagesExist geometry.pages c.in-Ok.heads = subst (λ (l : List FrameHead). PagesExist geometry.pages l) (sym is) (heads_at_exist geometry first groups old.image (c.args.group - first) has place.1) in
    true≢false (sym (c.pages_exist.ensures.1 exist) ∙ c.if-pages_exist.false)
