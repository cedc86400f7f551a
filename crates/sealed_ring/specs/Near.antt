-- The ring that is found from a number near its next unit.
use Rattle.std.specs.Prelude.{◌≡◌, ◌≢◌, ℕ, ◌+◌, ◌%◌, ◌≤◌, ◌<◌, List}
use Rattle.sealed_ring.specs.declared.slots.Shape.{Shape}
use Rattle.sealed_ring.specs.Ring.{gate, number, hi_of, IsRing}

-- the unit n stands in its slot behind an open gate
pub record IsThere (s : Shape) (c : List ℕ) (n : ℕ) : Type 0 where
  pub opened : gate s c (n % s.slots) ≡ 165
  pub own : number s c (n % s.slots) ≡ n

-- the units from a number up to hi are there, and the gate of hi isn't open
pub record IsFirstMissing (s : Shape) (c : List ℕ) (first hi : ℕ) : Type 0 where
  pub there : (n : ℕ) → first ≤ n → n < hi → IsThere s c n
  pub closed : gate s c (hi % s.slots) ≢ 165

-- a ring of the form whose next unit is this number, or at most four above it
pub record IsNear (s : Shape) (c : List ℕ) (first : ℕ) : Type 0 where
  pub form : IsRing s c
  pub least : first ≤ hi_of s c
  pub most : hi_of s c ≤ first + 4
