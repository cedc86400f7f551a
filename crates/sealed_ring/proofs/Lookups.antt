-- Calls that only read one device, in sequence.
use Rattle.sealed_ring.proofs.Names.{ℕ, ◌+◌, ◌≤◌, arith, Result, Ok, ReadsFrom, no_error, State, Dev}
use Rattle.site.specs.declared.outside.Stop.{Stop}

-- one call behind others that were Ok
pub reads_then : {A B : Type 0} (x : A) (r : Result B Stop) (dev : Dev) (n m k : ℕ) (a b c : State) → n + m ≤ k → ReadsFrom {T = A} (Ok x) dev n a b → ReadsFrom r dev m b c → ReadsFrom r dev k a c
reads_then x r dev n m k a b c most first second = grind arith

-- the same with another answer, or with another type of answer beside the error
pub reads_answered : {A B : Type 0} (x : A) (y : B) (dev : Dev) (n k : ℕ) (a b : State) → n ≤ k → ReadsFrom {T = A} (Ok x) dev n a b → ReadsFrom {T = B} (Ok y) dev k a b
reads_answered {A} {B} x y dev n k a b most reads = grind (arith, no_error)
