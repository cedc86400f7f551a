use Rattle.std.proofs.Common.{ℕ, ◌<◌}
use Rattle.slotted_page.specs.Layout.{AreApart}
use Rattle.slotted_page.proofs.soundness.are_apart.Given as goal

abbrev pub invariant-loop-b : goal.invariant-loop-b
invariant-loop-b l = (a b : ℕ) → a < b → b < l.b → AreApart l.octets a b
