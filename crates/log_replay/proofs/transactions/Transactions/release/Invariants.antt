use Rattle.log_replay.proofs.Names.{◌≡◌, ◌==◌, nat_eq, cond, ℕ, take, list_any, None, get}
use Rattle.log_replay.proofs.transactions.Transactions.release.Given as goal

abbrev pub invariant-loop-place : goal.invariant-loop-place
invariant-loop-place l =
    (l.self.active ≡ l.fn.self.active)
    × ((n : ℕ) → get nat_eq l.self.writers n
    ≡ cond (list_any (λ write. write.0 == n) (take l.place l.net)) None (get nat_eq l.fn.self.writers n))
