use Rattle.std.proofs.Common.{[], subst}
use Rattle.footprints.specs.Stacks.{Remember}
use Rattle.footprints.proofs.Stacked.{remember_less}
use Rattle.footprints.proofs.stack.Stack.pop.Goals as goal

pub invariant_of-self-2 : goal.invariant_of-self-2
invariant_of-self-2 c = (remember_less [] c.pop.new.self.items c.in_ok-last.last (subst (Remember []) c.in_ok-last.ensures.items c.self.invariant)).0

pub returns-clause-before : goal.returns-clause-before
returns-clause-before c = (remember_less [] c.pop.new.self.items c.in_ok-last.last (subst (Remember []) c.in_ok-last.ensures.items c.self.invariant)).1
