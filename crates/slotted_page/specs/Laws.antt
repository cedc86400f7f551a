-- What follows for those who build on pages.
use Rattle.std.specs.Prelude.{◌≡◌, ℕ, ◌<◌, ◌≤◌, List, length, replicate, Option, Some, None, slice_get}
use Rattle.byte_fields.specs.declared.TheConstants.{VALUE_MAX}
use Rattle.slotted_page.specs.Layout.{IsSound, lsn_of, used_of, slots_of, content_of, content_length, FitsPage}

-- a sound page, of which each slot is empty
pub record IsBlank (octets : List ℕ) : Type 0 where
  pub sound : IsSound octets
  pub lsn : lsn_of octets ≡ 0
  pub used : used_of octets ≡ 0
  pub slots : slots_of octets ≡ replicate 32 None

-- a page has 32 slots, each with its content
pub record HasSlots (octets : List ℕ) : Type 0 where
  pub count : length (slots_of octets) ≡ 32
  pub each : (slot : ℕ) → slot < 32 → slice_get (slots_of octets) slot ≡ Some (content_of octets slot)

-- and in a sound page no value is longer than values are
abbrev pub AreShort : Type 0
AreShort = (octets : List ℕ) (slot : ℕ) → IsSound octets → slot < 32
    → content_length (content_of octets slot) ≤ VALUE_MAX
