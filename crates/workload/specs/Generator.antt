-- The numbers of a workload.
use Rattle.std.specs.Prelude.{ℕ, zero, suc, ◌/◌, ◌%◌, ◌^◌, List}
use Rattle.std.specs.Int.{w64, to_be_bytes}
pub use Rattle.record_model.specs.Numbers.{following}

-- the number that a seed gives after so many turns
abbrev pub generated : ℕ → ℕ → ℕ
generated seed zero = seed
generated seed (suc i) = following (generated seed i)

-- the record that a number sets, of so many, and the value that it gets
abbrev pub record_of : ℕ → ℕ → ℕ
record_of x records = (x / 2 ^ 33) % records

abbrev pub value_of : ℕ → List ℕ
value_of x = to_be_bytes w64 x
