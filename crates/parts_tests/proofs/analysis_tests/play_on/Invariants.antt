use Rattle.analysis.specs.Read.{Invariant}
use Rattle.parts_tests.proofs.analysis_tests.play_on.Given as goal

abbrev pub invariant-loop-row : goal.invariant-loop-row
invariant-loop-row l = Invariant l.analysis
