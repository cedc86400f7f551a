use Rattle.std.proofs.Common.{◌≡◌, ◌*◌, ◌≤◌, take, set, None}
use Rattle.slotted_page.specs.Layout.{slots_of, total_length}
use Rattle.slotted_page.proofs.room.length_of_others.Given as goal

abbrev pub invariant-loop-other : goal.invariant-loop-other
invariant-loop-other l = (l.others ≡ total_length (take l.other (set (slots_of l.octets) l.slot None))) × (l.others ≤ 200 * l.other)
