use Rattle.std.proofs.Common.{ℕ, ◌<◌}
use Rattle.slotted_page.specs.Layout.{AreApart}
use Rattle.slotted_page.proofs.soundness.is_apart.Given as goal

abbrev pub invariant-loop-a : goal.invariant-loop-a
invariant-loop-a l = (a : ℕ) → a < l.a → AreApart l.octets a l.b
