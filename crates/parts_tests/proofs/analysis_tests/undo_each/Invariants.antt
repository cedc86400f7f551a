use Rattle.analysis.specs.Read.{Invariant}
use Rattle.parts_tests.proofs.analysis_tests.undo_each.Given as goal

abbrev pub invariant-loop-turn : goal.invariant-loop-turn
invariant-loop-turn l = Invariant l.analysis
