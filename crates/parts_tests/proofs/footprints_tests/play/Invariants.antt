use Rattle.std.proofs.Common.{ℕ, ◌%◌}
use Rattle.footprints.specs.Longest.{IsOnlyOf}
use Rattle.parts_tests.proofs.footprints_tests.play.Given as goal

abbrev pub invariant-loop-row : goal.invariant-loop-row
invariant-loop-row l = (number : ℕ) → IsOnlyOf l.footprints (number % 8) number
