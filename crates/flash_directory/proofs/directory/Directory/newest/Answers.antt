use Rattle.flash_directory.proofs.Names.{is_some, ap, sym, subst, ◌∙◌, IsQueue, newest, Queue}
use Rattle.flash_directory.proofs.Keeping.{some_newest, newest_at}
use Rattle.flash_directory.proofs.directory.Directory.newest.Goals as goal

pub returns-in_err-place-clause-frame : goal.returns-in_err-place-clause-frame
returns-in_err-place-clause-frame c =
    let q : Queue = c.args.self.now in
    ap is_some c.from_residual.ensures ∙ ap is_some (c.in_err-place.ensures.value ∙ c.self.invariant.1 c.args.page ∙ ap (λ (k : Queue). newest k c.args.page) c.self.view_is)
    ∙ some_newest q c.args.page

pub returns-clause-frame : goal.returns-clause-frame
returns-clause-frame c =
    let q : Queue = c.args.self.now in
    ap is_some (c.in_ok-place.ensures.value ∙ c.self.invariant.1 c.args.page ∙ ap (λ (k : Queue). newest k c.args.page) c.self.view_is)
    ∙ some_newest q c.args.page

pub returns-clause-last : goal.returns-clause-last
returns-clause-last c =
    let q : Queue = c.args.self.now in
    newest_at q (subst IsQueue c.self.view_is c.self.invariant.0) c.args.page c.in_ok-place.place.now
    (sym (c.in_ok-place.ensures.value ∙ c.self.invariant.1 c.args.page ∙ ap (λ (k : Queue). newest k c.args.page) c.self.view_is))
