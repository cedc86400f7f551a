-- What the octets of one device have as a ring.
use Rattle.std.specs.Prelude.{◌≡◌, ◌≢◌, ◌⊎◌, ℕ, zero, suc, ◌+◌, ◌-◌, ◌*◌, ◌%◌, ◌^◌, ◌≤◌, ◌<◌, min, max, Bool, ◌&&◌}
use Rattle.std.specs.Prelude.{◌==◌, if◌then◌else◌, List, [], ◌∷◌, ◌++◌, length, take, drop, slice_index, slice_index_or}
use Rattle.std.specs.Int.{from_be_bytes, w64}
use Rattle.sealed_ring.specs.declared.slots.Shape.{Shape}

-- the ring lies inside a device of this length, and a slot has room for its gate, its number and its content
pub record FitsIn (s : Shape) (len : ℕ) : Type 0 where
  pub slots : 3 ≤ s.slots
  pub room : s.room ≤ 32896
  pub stride : 9 + s.room ≤ s.stride
  pub inside : s.base + s.slots * s.stride ≤ len
  -- as the length of each device, a number of 64 bits
  pub addresses : s.base + s.slots * s.stride < 2 ^ 64

-- where slot j begins
abbrev pub place : Shape → ℕ → ℕ
place s j = s.base + j * s.stride

-- the number that the first 8 octets spell
abbrev pub first_number : List ℕ → ℕ
first_number octets = from_be_bytes w64 (take 8 octets)

-- the gate, the number and the content that stand in slot j
abbrev pub gate : Shape → List ℕ → ℕ → ℕ
gate s c j = slice_index c (place s j)

unfoldable pub number : Shape → List ℕ → ℕ → ℕ
number s c j = first_number (drop (place s j + 1) c)

abbrev pub content_at : Shape → List ℕ → ℕ → List ℕ
content_at s c j = take s.room (drop (place s j + 9) c)

-- the slot's gate is open, and its number is one of this slot
abbrev pub counts : Shape → List ℕ → ℕ → Bool
counts s c j = (gate s c j == 165) && (number s c j % s.slots == j)

-- one more than the greatest number of the first k slots that count, 0 if none does
abbrev pub hi_below : Shape → List ℕ → ℕ → ℕ
hi_below s c zero = 0
hi_below s c (suc j) = max (hi_below s c j) (if counts s c j then number s c j + 1 else 0)

abbrev pub hi_of : Shape → List ℕ → ℕ
hi_of s c = hi_below s c s.slots

-- the contents of the n units from a number on
abbrev pub units_from : Shape → List ℕ → ℕ → ℕ → List (List ℕ)
units_from s c first zero = []
units_from s c first (suc n) = content_at s c (first % s.slots) ∷ units_from s c (first + 1) n

-- the contents of the last units below hi, oldest first: one fewer than there are slots
abbrev pub live : Shape → ℕ → List ℕ → List (List ℕ)
live s hi c = units_from s c (hi - (s.slots - 1)) (min hi (s.slots - 1))

-- one past the newest live unit, and the live ones, oldest first
pub record Units : Type 0 where
  pub hi : ℕ
  pub live : List (List ℕ)

abbrev pub units_of : Shape → List ℕ → Units
units_of s c = record { hi = hi_of s c; live = live s (hi_of s c) c }

-- a ring of the form, whose next unit is hi
pub record HasForm (s : Shape) (hi : ℕ) (c : List ℕ) : Type 0 where
  -- each live unit's slot holds its number
  pub numbers : (n : ℕ) → n < hi → hi < n + s.slots → number s c (n % s.slots) ≡ n
  -- and its gate is open, but that of the oldest where as many live as can
  pub gates : (n : ℕ) → n < hi → hi + 1 < n + s.slots → gate s c (n % s.slots) ≡ 165
  pub closed : gate s c (hi % s.slots) ≢ 165
  pub bounded : hi ≤ 2 ^ 40
  -- a slot that was never used has no number of its own
  pub unused : (j : ℕ) → j < s.slots → hi < j → number s c j % s.slots ≢ j

-- a ring of the form
abbrev pub IsRing : Shape → List ℕ → Type 0
IsRing s c = HasForm s (hi_of s c) c

-- the unit n of the live ones
abbrev pub unit_at : Shape → Units → ℕ → List ℕ
unit_at s units n = slice_index_or units.live (n - (units.hi - (s.slots - 1))) []

-- n is the number of a live unit
pub record IsLive (s : Shape) (hi n : ℕ) : Type 0 where
  pub below : n < hi
  pub near : hi < n + s.slots

-- the last n of a list
abbrev pub last_of : ℕ → List (List ℕ) → List (List ℕ)
last_of n xs = drop (length xs - n) xs

-- with one more, of which as many live as can
abbrev pub appended : Shape → Units → List ℕ → Units
appended s units bytes = record { hi = units.hi + 1; live = last_of (s.slots - 1) (units.live ++ bytes ∷ []) }

-- p lies before the n octets from `at` on, or behind them
abbrev pub IsBeside : ℕ → ℕ → ℕ → Type 0
IsBeside at n p = (p < at) ⊎ (at + n ≤ p)

-- the octets that are in no slot's gate, number or content
abbrev pub SameOutside : Shape → List ℕ → List ℕ → Type 0
SameOutside s old new = (p : ℕ) → ((j : ℕ) → j < s.slots → IsBeside (place s j) (9 + s.room) p)
    → slice_index new p ≡ slice_index old p

-- unit hi stands in its slot behind an open gate, the next gate is closed, and every other octet is as it was
pub record Seals (s : Shape) (hi : ℕ) (bytes old now : List ℕ) : Type 0 where
  pub size : length now ≡ length old
  pub opened : gate s now (hi % s.slots) ≡ 165
  pub number : number s now (hi % s.slots) ≡ hi
  pub content : content_at s now (hi % s.slots) ≡ bytes
  pub next : gate s now ((hi + 1) % s.slots) ≡ 0
  pub others : (p : ℕ) → IsBeside (place s (hi % s.slots)) (9 + s.room) p → p ≢ place s ((hi + 1) % s.slots)
      → slice_index now p ≡ slice_index old p

-- the ring is of the form, with the old units or with the new one too, and all outside it is as it was
pub record OldOrNew (s : Shape) (old bytes now : List ℕ) : Type 0 where
  pub size : length now ≡ length old
  pub form : IsRing s now
  pub units : (units_of s now ≡ units_of s old) ⊎ (units_of s now ≡ appended s (units_of s old) bytes)
  pub outside : SameOutside s old now

-- within the two halves of an append

-- number and content of unit hi are written and the next gate is closed; every other octet is as it was
pub record Stages (s : Shape) (hi : ℕ) (bytes old now : List ℕ) : Type 0 where
  pub size : length now ≡ length old
  pub number : number s now (hi % s.slots) ≡ hi
  pub content : content_at s now (hi % s.slots) ≡ bytes
  pub next : gate s now ((hi + 1) % s.slots) ≡ 0
  pub others : (p : ℕ) → IsBeside (place s (hi % s.slots) + 1) (8 + s.room) p → p ≢ place s ((hi + 1) % s.slots)
      → slice_index now p ≡ slice_index old p

-- the gate of unit hi is open; every other octet is as it was
pub record Opens (s : Shape) (hi : ℕ) (old now : List ℕ) : Type 0 where
  pub size : length now ≡ length old
  pub opened : gate s now (hi % s.slots) ≡ 165
  pub others : (p : ℕ) → p ≢ place s (hi % s.slots) → slice_index now p ≡ slice_index old p

-- the ring's units below hi are those of the old content
pub record Keeps (s : Shape) (hi : ℕ) (old now : List ℕ) : Type 0 where
  pub size : length now ≡ length old
  pub form : HasForm s hi now
  pub live : live s hi now ≡ live s hi old
  pub outside : SameOutside s old now

-- the unit hi stands behind its closed gate, and the next gate is closed
pub record IsStaged (s : Shape) (hi : ℕ) (now : List ℕ) : Type 0 where
  pub form : HasForm s hi now
  pub number : number s now (hi % s.slots) ≡ hi
  pub next : gate s now ((hi + 1) % s.slots) ≢ 165

-- the unit hi, whose content stood there already, counts behind those of the old content
pub record Adds (s : Shape) (hi : ℕ) (old now : List ℕ) : Type 0 where
  pub size : length now ≡ length old
  pub form : HasForm s (hi + 1) now
  pub live : live s (hi + 1) now ≡ last_of (s.slots - 1) (live s hi old ++ content_at s old (hi % s.slots) ∷ [])
  pub outside : SameOutside s old now
