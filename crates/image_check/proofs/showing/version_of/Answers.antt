use Rattle.image_check.proofs.Names.{◌≡◌, IsTrue, ◌∙◌, subst, version_on, AreFound, ShowsFrames, AreGroups, State, Geometry}
use Rattle.image_check.proofs.showing.version_of.Goals as goal

pub returns-clause-version : goal.returns-clause-version
returns-clause-version g c finds =
    let old : State = g.S.Site.state c.args.site.now in
    let read = subst (λ (k : Geometry). IsTrue old.honest → AreFound c.args.found.now.rings old → AreGroups k old.image → ShowsFrames k old.image c.args.frames.now → c.read_version.new.into ≡ version_on k old.image c.args.page)
    c.geometry-geometry.ensures c.in_default.ensures.version in
    c.from_bytes.ensures ∙ read finds.honest finds.rings finds.groups finds.shown
