use Rattle.std.proofs.Common.{Some, ap, sym, subst, ◌∙◌}
use Rattle.footprints.specs.Longest.{longest, lengths, IsGreatest}
use Rattle.footprints.proofs.Greatest.{greatest}
use Rattle.footprints.proofs.footprints.Footprints.longest.Goals as goal

pub returns-clause-greatest : goal.returns-clause-greatest
returns-clause-greatest c =
    subst (IsGreatest (lengths c.args.self.now c.args.number))
    (ap (λ l. longest l c.args.number) (sym c.self.view_is) ∙ sym (c.self.invariant.longest c.args.number) ∙ sym c.in_ok-length.ensures.value ∙ ap Some (sym c.from.ensures))
    (greatest (lengths c.args.self.now c.args.number))
