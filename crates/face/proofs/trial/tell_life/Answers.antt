use Rattle.face.proofs.Names.{◌≡◌, ◌∙◌, ℕ, List, subst, life_line, stays_honest, EachMoment, TellsPart}
use Rattle.face.proofs.Trials.{keeps_then, keeps_told, on_err, told_first_part, told_part}
use Rattle.face.proofs.trial.tell_life.Goals as goal

pub returns-in-Ok-clause-part : goal.returns-in-Ok-clause-part
returns-in-Ok-clause-part g c honest =
    let old = g.S.Site.state c.args.site.now in
    let mid = g.S.Site.state c.tell_all.new.site in
    let new = g.S.Site.state c.tell_all-in-Ok.new.site in
    let line : c.as_slice.result.now ≡ life_line c.args.number c.args.status = c.as_slice.ensures.value ∙ c.life_line.ensures in
    let tells = subst (λ (l : List ℕ). EachMoment mid new (TellsPart l mid)) line (c.tell_all-in-Ok.ensures.any_moment (stays_honest old mid c.tell_all.ensures.preserves honest)) in
    on_err _ c.tell_all-in-Ok.result (told_part old mid new c.args.text.now (life_line c.args.number c.args.status) (c.in-Ok.ensures.told honest) tells)

pub returns-in-Ok-clause-keeps : goal.returns-in-Ok-clause-keeps
returns-in-Ok-clause-keeps g c =
    let old = g.S.Site.state c.args.site.now in
    let mid = g.S.Site.state c.tell_all.new.site in
    let new = g.S.Site.state c.tell_all-in-Ok.new.site in
    let one = c.tell_all.ensures in
    let two = c.tell_all-in-Ok.ensures in
    keeps_then old mid new (keeps_told c.args.text.now old mid one.any_moment one.reads one.preserves) (keeps_told c.as_slice.result.now mid new two.any_moment two.reads two.preserves)

pub returns-in-Err-clause-part : goal.returns-in-Err-clause-part
returns-in-Err-clause-part g c honest =
    told_first_part (g.S.Site.state c.args.site.now) (g.S.Site.state c.tell_all.new.site) c.args.text.now (life_line c.args.number c.args.status) (c.tell_all.ensures.any_moment honest)

pub returns-in-Err-clause-keeps : goal.returns-in-Err-clause-keeps
returns-in-Err-clause-keeps g c = keeps_told c.args.text.now (g.S.Site.state c.args.site.now) (g.S.Site.state c.tell_all.new.site) c.tell_all.ensures.any_moment c.tell_all.ensures.reads c.tell_all.ensures.preserves
