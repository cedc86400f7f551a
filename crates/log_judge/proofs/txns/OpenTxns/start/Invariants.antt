use Rattle.log_judge.proofs.Names.{◌≡◌, ◌==◌, ℕ, take, list_any, has}
use Rattle.log_judge.proofs.txns.OpenTxns.start.Given as goal

abbrev pub invariant-loop-place : goal.invariant-loop-place
invariant-loop-place l = (t : ℕ) → has l.txns t ≡ list_any (λ pair. pair.begin == t) (take l.place l.master.active)
