use Rattle.image_form.proofs.Names.{◌≡◌, ◌↔◌, IsTrue, sym, subst, Ok, Err, is_none, ShowsFrames, AreGroups, FramesAreClean, stays_honest, looks_then, State, Image}
use Rattle.image_form.proofs.Lasting.{found_later, may_read_later}
use Rattle.image_form.proofs.NewestRead.{shown_some}
use Rattle.image_form.proofs.clean.rule_clean.Goals as goal

pub find_unclean-requires : goal.find_unclean-requires
find_unclean-requires g c = may_read_later c.args.geometry.now c.args.rings.now (g.S.Site.state c.args.site.now) (g.S.Site.state c.find_frames.new.site) c.in-Ok-Some.ensures.reads.preserves c.requires

pub returns-in-Ok-clause-clean : goal.returns-in-Ok-clause-clean
returns-in-Ok-clause-clean g c honest found groups =
    let geometry = c.args.geometry.now in
    let old : State = g.S.Site.state c.args.site.now in
    let now : State = g.S.Site.state c.find_frames.new.site in
    let reads = c.in-Ok-Some.ensures.reads in
    let same : now.image ≡ old.image = (reads.same honest).image in
    let shows = shown_some geometry old.image c.in-Ok-Some.field-0 c.in-Ok-Some.frames c.in-Ok-Some.field-0-is (c.in-Ok-Some.ensures.shown honest found groups) in
    subst (λ (image : Image). IsTrue (is_none c.in-Ok.failing) ↔ FramesAreClean geometry image) same
    (c.in-Ok.ensures.clean (stays_honest old now reads.preserves honest) (found_later c.args.rings.now old now same found) (subst (AreGroups geometry) (sym same) groups)
    (subst (λ (image : Image). ShowsFrames geometry image c.in-Ok-Some.frames) (sym same) shows))

pub returns-in-Ok-clause-reads : goal.returns-in-Ok-clause-reads
returns-in-Ok-clause-reads g c = looks_then c.in-Ok-Some.field-0 (Ok c.in-Ok.failing) _ _ _ c.in-Ok-Some.ensures.reads c.in-Ok.ensures.reads

pub returns-clause-reads : goal.returns-clause-reads
returns-clause-reads g c = looks_then c.in-Ok-Some.field-0 (Err c.in-Err-find_unclean.stop) _ _ _ c.in-Ok-Some.ensures.reads c.in-Err-find_unclean.ensures.reads
