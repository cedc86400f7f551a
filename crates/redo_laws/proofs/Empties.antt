-- Devices of which no log block is kept.
use Rattle.redo_laws.proofs.Citing.{ℕ, ◌<◌, ◌==◌, ◌||◌, nat_lt, IsTrue, arith}
use Rattle.std.proofs.lemmas.Bool.Decides.{nat_tests}

pub logged_below : (n end : ℕ) → IsTrue ((n == 0) || nat_lt n end) → 0 < n → n < end
logged_below n end logged some = grind (arith, nat_tests)
