-- Octets written over others.
use Rattle.std.specs.Prelude.{◌≡◌, ℕ, ◌+◌, ◌≤◌, List, ◌++◌, length, take, drop}

-- new is old with the text from a place on
pub record Writes (old new : List ℕ) (from : ℕ) (text : List ℕ) : Type 0 where
  pub inside : from + length text ≤ length old
  pub written : new ≡ take from old ++ (text ++ drop (from + length text) old)
