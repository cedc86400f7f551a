use Rattle.std.proofs.Common.{ℕ, ◌<◌}
use Rattle.slotted_page.specs.Layout.{IsEntry}
use Rattle.slotted_page.proofs.soundness.are_entries.Given as goal

abbrev pub invariant-loop-slot : goal.invariant-loop-slot
invariant-loop-slot l = (slot : ℕ) → slot < l.slot → IsEntry l.octets slot
