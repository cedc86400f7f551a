-- The parts of a ring's form that two looks at its slots decide, and what a judge of a ring says.
use Rattle.std.specs.Prelude.{◌≡◌, ◌≢◌, ℕ, ◌+◌, ◌%◌, ◌<◌, List, Option, Some, None}
use Rattle.site.specs.State.{State}
use Rattle.sealed_ring.specs.declared.slots.Shape.{Shape}
use Rattle.sealed_ring.specs.declared.ring.Ring.{Ring}
use Rattle.sealed_ring.specs.Ring.{gate, number, IsRing, IsLive}
use Rattle.sealed_ring.specs.Ready.{region, Matches}

-- the slot of the live unit n holds its number behind an open gate; of the oldest, where as many live as can, any gate
-- serves
pub record Stands (s : Shape) (hi n : ℕ) (found_gate found_number : ℕ) : Type 0 where
  pub own : found_number ≡ n
  pub opened : hi + 1 < n + s.slots → found_gate ≡ 165

abbrev pub StandsIn : Shape → ℕ → List ℕ → ℕ → Type 0
StandsIn s hi c n = Stands s hi n (gate s c (n % s.slots)) (number s c (n % s.slots))

-- each live unit stands in its slot
abbrev pub LiveStand : Shape → ℕ → List ℕ → Type 0
LiveStand s hi c = (n : ℕ) → IsLive s hi n → StandsIn s hi c n

-- a slot that was never used has no number of its own
abbrev pub UnusedAreBare : Shape → ℕ → List ℕ → Type 0
UnusedAreBare s hi c = (j : ℕ) → j < s.slots → hi < j → number s c j % s.slots ≢ j

-- this ring stands there, and is of the form; where none is named, what stands there isn't of the form
abbrev pub IsJudged : Shape → Option Ring → State → Type 0
IsJudged s (Some ring) site = IsRing s (region s site) × Matches ring site
IsJudged s None site = IsRing s (region s site) → ⊥
