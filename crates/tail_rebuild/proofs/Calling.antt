-- Calls that only read the flash, in sequence.
use Rattle.tail_rebuild.proofs.Names.{ℕ, ◌+◌, ◌≤◌, Result, Ok, Err, IfOk, State, Flash, Stop, ReadsFlash}
use Rattle.sealed_ring.proofs.Lookups as lookups

-- one call behind others that were Ok
pub reads_then : {A B : Type 0} (x : A) (r : Result B Stop) (n m k : ℕ) (a b c : State) → n + m ≤ k → ReadsFlash {T = A} (Ok x) n a b → ReadsFlash r m b c → ReadsFlash r k a c
reads_then x r n m k a b c most first second = record { from = lookups.reads_then x r Flash n m k a b c most first.from second.from; stops = second.stops }

-- the same with another answer
pub reads_answered : {A B : Type 0} (x : A) (y : B) (n k : ℕ) (a b : State) → n ≤ k → ReadsFlash {T = A} (Ok x) n a b → ReadsFlash {T = B} (Ok y) k a b
reads_answered x y n k a b most reads = record { from = lookups.reads_answered x y Flash n k a b most reads.from; stops = tt }

-- what follows from two facts on an answer
pub ok_both : {T E : Type 0} (r : Result T E) (P Q R : T → Type 0) → IfOk r P → IfOk r Q → ((x : T) → P x → Q x → R x) → IfOk r R
ok_both (Ok x) P Q R p q follows = follows x p q
ok_both (Err e) P Q R p q follows = tt
