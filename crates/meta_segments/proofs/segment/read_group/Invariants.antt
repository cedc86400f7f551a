use Rattle.meta_segments.proofs.Reading.{HasRead}
use Rattle.meta_segments.proofs.segment.read_group.Given as goal

abbrev pub invariant-loop-place : goal.invariant-loop-place
invariant-loop-place l = HasRead l.octets l.heads l.place l.frames
