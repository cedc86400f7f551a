use Rattle.std.proofs.Common.{sym, subst}
use Rattle.front_end.specs.New.{unfit_line}
use Rattle.front_end.specs.declared.new_database.Unfit.{Unfit}
use Rattle.front_end.specs.Tells.{Tells}
use Rattle.front_end.proofs.fault_lines.tell_unfit.Goals as goal

pub returns-in-NotBlank : goal.returns-in-NotBlank
returns-in-NotBlank g c =
    let old = g.S.Site.state c.args.site.now in
    let new = g.S.Site.state c.tell_not_blank.new.site in
    subst (λ (u : Unfit). Tells (unfit_line u) old new c.tell_not_blank.result) (sym c.in-NotBlank.is) c.tell_not_blank.ensures
