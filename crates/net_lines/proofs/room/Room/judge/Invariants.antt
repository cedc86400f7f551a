use Rattle.std.proofs.Common.{◌≡◌, [], List, length}
use Rattle.std.specs.Prelude.{take}
use Rattle.record_model.specs.State.{Content}
use Rattle.net_lines.specs.Nets.{AreLengths, HaveRoomAfter, while_writing}
use Rattle.net_lines.proofs.room.Room.judge.Given as goal

abbrev pub invariant-loop-place : goal.invariant-loop-place
invariant-loop-place l = record {
  size : length l.self ≡ length l.fn.self;
  room : (table : List Content) → AreLengths (while_writing table []) l.fn.self → HaveRoomAfter table [] (take l.place l.net);
  lengths : (table : List Content) → AreLengths (while_writing table []) l.fn.self → AreLengths (while_writing table (take l.place l.net)) l.self;
}
