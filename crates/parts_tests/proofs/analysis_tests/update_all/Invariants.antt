use Rattle.analysis.specs.Read.{Invariant}
use Rattle.parts_tests.proofs.analysis_tests.update_all.Given as goal

abbrev pub invariant-loop-txn : goal.invariant-loop-txn
invariant-loop-txn l = Invariant l.analysis
