use Rattle.std.proofs.Common.{◌∙◌, arith, []}
use Rattle.std.proofs.lemmas.List.{get_or_default}
use Rattle.footprints.proofs.Changed.{had, taken_back}
use Rattle.footprints.proofs.footprints.Footprints.take_back.Goals as goal

pub put-requires : goal.put-requires
put-requires c =
    had c.self.inside.longest c.self.inside.longest c.self.inside.stacks c.self.invariant c.args.session c.requires c.in-Some.last.footprint c.pop.new.self
    (get_or_default c.self.inside.stacks c.args.session [] _ (omega (arith, c.requires, c.self.invariant.eight)) ∙ c.in-Some.ensures.last)

pub invariant_of-self-2 : goal.invariant_of-self-2
invariant_of-self-2 c =
    taken_back c.self.inside.longest c.put.new.lengths c.self.inside.stacks c.self.invariant c.args.session c.requires c.in-Some.last.footprint c.pop.new.self
    (get_or_default c.self.inside.stacks c.args.session [] _ (omega (arith, c.requires, c.self.invariant.eight)) ∙ c.in-Some.ensures.last)
    c.in-Some.last.before c.in-Some.ensures.before c.put.ensures
