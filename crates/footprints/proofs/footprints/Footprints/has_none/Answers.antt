use Rattle.std.proofs.Common.{List}
use Rattle.footprints.specs.declared.footprint.Footprint.{Footprint}
use Rattle.std.proofs.Common.{subst}
use Rattle.footprints.specs.Longest.{IsOnlyOf}
use Rattle.footprints.proofs.footprints.Footprints.has_none.Goals as goal

pub returns-clause-owned : goal.returns-clause-owned
returns-clause-owned c number =
    let own = c.self.invariant.owned number in
    (own.0, subst (λ (l : List (List Footprint)). IsOnlyOf l own.0 number) c.self.view_is own.1)
