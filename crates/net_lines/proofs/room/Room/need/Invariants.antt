use Rattle.std.proofs.Common.{◌≡◌, ◌*◌, ◌/◌, ◌≤◌, sum_by}
use Rattle.std.specs.List.{range_with_len}
use Rattle.net_lines.specs.Nets.{needed_in}
use Rattle.net_lines.proofs.room.Room.need.Given as goal

abbrev pub invariant-loop-slot : goal.invariant-loop-slot
invariant-loop-slot l = record {
  first_is : l.first ≡ 32 * (l.number / 32);
  so_far : l.need ≡ sum_by (needed_in l.fn.self l.number l.octets) (range_with_len l.first l.slot);
  small : l.need ≤ 256 * l.slot;
}
