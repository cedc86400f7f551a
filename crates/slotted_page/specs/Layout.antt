-- A page's octets: what they mean, and when they are sound.
use Rattle.std.specs.Prelude.{◌≡◌, ℕ, ◌+◌, ◌-◌, ◌*◌, ◌<◌, ◌≤◌, ◌==◌, ◌⊎◌, List, length, map, take, drop, replicate}
use Rattle.std.specs.Prelude.{sum_by, slice_set, Option, Some, None, if◌then◌else◌}
use Rattle.std.specs.List.{range_with_len}
use Rattle.std.specs.Int.{w16, w64, from_be_bytes}
use Rattle.byte_fields.specs.declared.TheConstants.{VALUE_MAX}

-- the LSN of the last change
unfoldable pub lsn_of : List ℕ → ℕ
lsn_of octets = from_be_bytes w64 (take 8 octets)

-- the number in the two octets from a place on
unfoldable pub number_at : List ℕ → ℕ → ℕ
number_at octets at = from_be_bytes w16 (take 2 (drop at octets))

-- how many octets at its end the page's heap takes up
abbrev pub used_of : List ℕ → ℕ
used_of octets = number_at octets 8

-- The entry of a slot in the directory: an offset, and the length of the slot's value plus one. Where the second is 0
-- the slot is empty.
abbrev pub offset_of : List ℕ → ℕ → ℕ
offset_of octets slot = number_at octets (16 + 4 * slot)

abbrev pub code_of : List ℕ → ℕ → ℕ
code_of octets slot = number_at octets (18 + 4 * slot)

abbrev pub length_of : List ℕ → ℕ → ℕ
length_of octets slot = code_of octets slot - 1

-- what a slot has: a value, or none
abbrev pub content_of : List ℕ → ℕ → Option (List ℕ)
content_of octets slot =
    if code_of octets slot == 0 then None else Some (take (length_of octets slot) (drop (offset_of octets slot) octets))

-- what the 32 slots have
unfoldable pub slots_of : List ℕ → List (Option (List ℕ))
slots_of octets = map (content_of octets) (range_with_len 0 32)

-- Soundness.

-- A slot's entry: two zeros, or where in the heap the slot's value stands.
pub record IsEntry (octets : List ℕ) (slot : ℕ) : Type 0 where
  pub empty : code_of octets slot ≡ 0 → offset_of octets slot ≡ 0
  pub short : length_of octets slot ≤ VALUE_MAX
  pub begin : 0 < code_of octets slot → 4096 - used_of octets ≤ offset_of octets slot
  pub end : 0 < code_of octets slot → offset_of octets slot + length_of octets slot ≤ 4096

-- no octet belongs to the values of both slots
pub record AreApart (octets : List ℕ) (a b : ℕ) : Type 0 where
  pub disjoint : 0 < length_of octets a → 0 < length_of octets b →
      (offset_of octets a + length_of octets a ≤ offset_of octets b)
      ⊎ (offset_of octets b + length_of octets b ≤ offset_of octets a)

pub record IsSound (octets : List ℕ) : Type 0 where
  pub size : length octets ≡ 4096
  pub zeros : take 6 (drop 10 octets) ≡ replicate 6 0
  pub used : used_of octets ≤ 3952
  pub entries : (slot : ℕ) → slot < 32 → IsEntry octets slot
  pub apart : (a b : ℕ) → a < b → b < 32 → AreApart octets a b

-- Room.

abbrev pub content_length : Option (List ℕ) → ℕ
content_length None = 0
content_length (Some value) = length value

-- how many octets the values of all slots have together
abbrev pub total_length : List (Option (List ℕ)) → ℕ
total_length slots = sum_by content_length slots

-- with this content in its slot, the values of all slots have room in the heap together
abbrev pub FitsPage : List (Option (List ℕ)) → ℕ → Option (List ℕ) → Type 0
FitsPage slots slot content = total_length (slice_set slots slot content) ≤ 3952
