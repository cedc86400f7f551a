use Rattle.std.proofs.Common.{max, [], sym, ap, subst, ◌∙◌}
use Rattle.std.specs.List.{reduce}
use Rattle.footprints.specs.Longest.{lengths_on}
use Rattle.footprints.specs.Stacks.{Remember}
use Rattle.footprints.proofs.Stacked.{remember_more}
use Rattle.footprints.proofs.stack.Stack.push.Goals as goal

pub invariant_of-self-2 : goal.invariant_of-self-2
invariant_of-self-2 c =
    subst (Remember []) (sym c.in_ok-push.ensures.items)
    (remember_more [] c.self.inside.list.items _ c.self.invariant (c.requires ∙ ap (λ l. reduce max (lengths_on c.args.footprint.number l)) (sym c.self.view_is)))
