-- What stays of the locks when those of one session go.
use Rattle.std.proofs.Common.{◌≡◌, ◌==◌, ◌&&◌, ℕ, Bool, true, not, List, filter, arith}
use Rattle.std.specs.List.{list_any}
use Rattle.std.proofs.lemmas.Bool.{and_parts}
use Rattle.std.proofs.lemmas.Bool.Decides.{nat_tests}
use Rattle.std.proofs.lemmas.Map.Views.{any-filter_same}
use Rattle.lock_table.specs.declared.lock.Lock.{Lock}

-- a session is the same seen from either side
other_way : (a b n : ℕ) → (a == n) ≡ true → not (a == b) ≡ not (n == b)
other_way a b n same = grind (arith, nat_tests)

-- a test that passes locks of session n only finds the locks that it found, if n is not the one that goes
pub any-released : (rest : Lock → Bool) (gone n : ℕ) (locks : List Lock)
    → list_any (λ lock. lock.session == n && rest lock) (filter (λ lock. not (lock.session == gone)) locks)
    ≡ (not (n == gone) && list_any (λ lock. lock.session == n && rest lock) locks)
any-released rest gone n locks =
    any-filter_same (λ lock. lock.session == n && rest lock) (λ lock. not (lock.session == gone)) (not (n == gone))
    (λ lock passes. other_way lock.session gone n ((and_parts (lock.session == n) (rest lock) passes).0)) locks
