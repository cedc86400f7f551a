use Rattle.checkpoint.proofs.Names.{ℕ, ◌+◌, ◌<◌, get_or, no_pair}
use Rattle.checkpoint.proofs.pairs.Pairs.ascend.Given as goal

abbrev pub invariant-loop-place : goal.invariant-loop-place
invariant-loop-place l = (i : ℕ) → i + 1 < l.place → (get_or l.self i no_pair).begin < (get_or l.self (i + 1) no_pair).begin
