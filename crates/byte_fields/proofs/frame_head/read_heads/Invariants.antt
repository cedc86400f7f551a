use Rattle.std.proofs.Common.{take}
use Rattle.byte_fields.specs.FrameHeads.{AreHeads}
use Rattle.byte_fields.proofs.frame_head.read_heads.Given as goal

abbrev pub invariant-loop-place : goal.invariant-loop-place
invariant-loop-place l = AreHeads l.bytes (take l.place l.heads)
