use Rattle.std.proofs.Common.{◌≡◌, [], length, slice_set}
use Rattle.footprints.specs.Longest.{of_session}
use Rattle.footprints.proofs.footprints.Footprints.end.Given as goal

abbrev pub invariant-loop-self : goal.invariant-loop-self
invariant-loop-self l = slice_set l.self l.session [] ≡ slice_set l.fn.self l.session []

abbrev pub decreases-loop-self : goal.decreases-loop-self
decreases-loop-self l = length (of_session l.self l.session)
