-- Laws for the crates above.
use Rattle.std.specs.Prelude.{◌≡◌, ◌⊎◌, ℕ, ◌+◌, ◌-◌, ◌*◌, ◌<◌, ◌≤◌, min, true, List, [], ◌∷◌, ◌++◌, length, slice_index}
use Rattle.site.specs.State.{State}
use Rattle.site.specs.Calls.{Preserves}
use Rattle.sealed_ring.specs.declared.slots.Shape.{Shape}
use Rattle.sealed_ring.specs.declared.ring.Ring.{Ring}
use Rattle.sealed_ring.specs.Ring.{FitsIn, IsRing, counts, number, hi_of, Units, units_of, appended}
use Rattle.sealed_ring.specs.Ready.{IsUsable}

-- two rings of one device that don't overlap
abbrev pub Apart : Shape → Shape → Type 0
Apart s t = (s.base + s.slots * s.stride ≤ t.base) ⊎ (t.base + t.slots * t.stride ≤ s.base)

-- a ring can be used after any calls, since no length changes
abbrev pub UsableStays : Type 0
UsableStays = (ring : Ring) (old new : State) → IsUsable ring old → Preserves old new → IsUsable ring new

-- hi is above each number of a slot that counts, and one above one of them or 0
abbrev pub HiIsHighest : Type 0
HiIsHighest = (s : Shape) (c : List ℕ) → ((j : ℕ) → j < s.slots → counts s c j ≡ true → number s c j < hi_of s c)
    × ((hi_of s c ≡ 0) ⊎ ((j : ℕ) × (j < s.slots) × (counts s c j ≡ true) × (hi_of s c ≡ number s c j + 1)))

-- as many units live as were appended, but at most one fewer than there are slots
abbrev pub LiveCount : Type 0
LiveCount = (s : Shape) (c : List ℕ) → length (units_of s c).live ≡ min (hi_of s c) (s.slots - 1)

-- an append to a ring that isn't full adds its unit to the live ones
abbrev pub AppendsBehind : Type 0
AppendsBehind = (s : Shape) (units : Units) (bytes : List ℕ) → length units.live + 1 < s.slots
    → appended s units bytes ≡ record { hi = units.hi + 1; live = units.live ++ bytes ∷ [] }

-- and to a full one it ends the oldest
abbrev pub EndsOldest : Type 0
EndsOldest = (s : Shape) (hi : ℕ) (oldest : List ℕ) (rest : List (List ℕ)) (bytes : List ℕ) → length rest + 2 ≡ s.slots
    → appended s (record { hi = hi; live = oldest ∷ rest }) bytes ≡ record { hi = hi + 1; live = rest ++ bytes ∷ [] }

-- blank octets are a ring of the form without units
abbrev pub BlankIsRing : Type 0
BlankIsRing = (s : Shape) (c : List ℕ) → FitsIn s (length c) → ((p : ℕ) → slice_index c p ≡ 0)
    → IsRing s c × (units_of s c ≡ record { hi = 0; live = [] })
