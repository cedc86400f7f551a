use borrow.Author.Count.{below_more}
use Rattle.std.proofs.Common.{ℕ}
use Rattle.slotted_page.specs.Layout.{AreApart}
use Rattle.slotted_page.proofs.soundness.is_apart.Goals as goal

pub loop-a-preserved : goal.loop-a-preserved
loop-a-preserved c = below_more (λ (a : ℕ). AreApart c.args.octets.now a c.args.b) c.loop-a.a c.loop-a.invariant (c.are_two_apart.ensures.0 c.if-not-are_two_apart.false)
