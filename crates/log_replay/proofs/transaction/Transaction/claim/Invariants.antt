use Rattle.log_replay.proofs.Names.{◌≡◌, ◌==◌, nat_eq, cond, ℕ, list_any, Some, get}
use Rattle.log_replay.specs.Opened.{has_written}
use Rattle.log_replay.proofs.transaction.Transaction.claim.Given as goal

-- with the numbers that are left claimed, too, all are
abbrev pub invariant-loop-number : goal.invariant-loop-number
invariant-loop-number l = (n : ℕ) →
    cond (list_any (λ k. k == n) l.number-iterator) (Some l.self.begin) (get nat_eq l.writers n)
    ≡ cond (has_written n l.fn.self) (Some l.self.begin) (get nat_eq l.fn.writers n)
