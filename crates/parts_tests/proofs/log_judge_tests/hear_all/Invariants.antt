use Rattle.std.proofs.Common.{◌≡◌}
use Rattle.parts_tests.proofs.log_judge_tests.hear_all.Given as goal

abbrev pub invariant-loop-place : goal.invariant-loop-place
invariant-loop-place l = l.judge.sizes ≡ l.fn.judge.sizes
