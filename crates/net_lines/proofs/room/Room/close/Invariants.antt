use Rattle.std.proofs.Common.{◌≡◌, ◌<◌, ℕ, length}
use Rattle.std.specs.Prelude.{take, slice_index_or}
use Rattle.net_lines.proofs.Rooms.{closed_at}
use Rattle.net_lines.proofs.room.Room.close.Given as goal

abbrev pub invariant-loop-place : goal.invariant-loop-place
invariant-loop-place l = record {
  size : length l.self ≡ length l.fn.self;
  each : (r : ℕ) → r < length l.fn.self → slice_index_or l.self r 0 ≡ closed_at l.fn.self (take l.place l.net) r;
}
