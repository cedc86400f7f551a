use Rattle.meta_segments.proofs.Reading.{HasGroups}
use Rattle.meta_segments.proofs.segment.segment_heads.Given as goal

abbrev pub invariant-loop-group : goal.invariant-loop-group
invariant-loop-group l = HasGroups l.content l.heads l.group
