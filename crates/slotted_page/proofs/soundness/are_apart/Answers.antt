use borrow.Author.Count.{below_more}
use Rattle.std.proofs.Common.{ℕ, ◌<◌}
use Rattle.slotted_page.specs.Layout.{AreApart}
use Rattle.slotted_page.proofs.soundness.are_apart.Goals as goal

pub loop-b-preserved : goal.loop-b-preserved
loop-b-preserved c = λ a b less below.
    below_more (λ (n : ℕ). (m : ℕ) → m < n → AreApart c.args.octets.now m n) c.loop-b.b
    (λ n fewer m lower. c.loop-b.invariant m n lower fewer) (c.is_apart.ensures.0 c.if-not-is_apart.false) b below a less
