use Rattle.std.proofs.Common.{◌≡◌, ◌+◌, drop}
use Rattle.byte_fields.specs.FrameHeads.{present_in_front}
use Rattle.byte_fields.proofs.frame_head.frames_in_front.Given as goal

abbrev pub invariant-loop-place : goal.invariant-loop-place
invariant-loop-place l = present_in_front l.heads ≡ l.place + present_in_front (drop l.place l.heads)
