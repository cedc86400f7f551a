use Rattle.std.proofs.Common.{take}
use Rattle.std.specs.List.{AllByRecursion}
use Rattle.byte_fields.specs.FrameHeads.{spelling_of_all, FitsFields}
use Rattle.byte_fields.specs.Writes.{Writes}
use Rattle.byte_fields.proofs.frame_head.write_heads.Given as goal

abbrev pub invariant-loop-place : goal.invariant-loop-place
invariant-loop-place l = Writes l.initial.bytes l.bytes 0 (spelling_of_all (take l.place l.heads)) × AllByRecursion FitsFields (take l.place l.heads)
