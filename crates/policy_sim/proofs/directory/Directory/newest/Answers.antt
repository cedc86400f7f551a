use Rattle.policy_sim.proofs.Names.{◌≡◌, ℕ, Option, Some, None, IfSome, is_some, ap, sym, subst, ◌∙◌, some_newest, newest_at, newest, IsNewest, IsQueue, Queue}
use Rattle.flash_directory.specs.declared.place.Place.{Place}
use Rattle.policy_sim.proofs.directory.Directory.newest.Goals as goal

pub returns-clause-frame : goal.returns-clause-frame
returns-clause-frame c =
    ap is_some (c.find.ensures.place ∙ c.self.invariant.1 c.args.page ∙ ap (λ (k : Queue). newest k c.args.page) c.self.view_is) ∙ some_newest c.args.self.now c.args.page

of_some : (q : Queue) → IsQueue q → (page : ℕ) (o : Option Place) → newest q page ≡ o → IfSome o (λ place. IsNewest q page place)
of_some q queue page None is = tt
of_some q queue page (Some p) is = newest_at q queue page p is

pub returns-clause-last : goal.returns-clause-last
returns-clause-last c =
    of_some c.args.self.now (subst IsQueue c.self.view_is c.self.invariant.0) c.args.page c.find.result
    (sym (c.find.ensures.place ∙ c.self.invariant.1 c.args.page ∙ ap (λ (k : Queue). newest k c.args.page) c.self.view_is))
