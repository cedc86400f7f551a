-- How many octets values have together.
use Rattle.std.proofs.Common.{◌≡◌, ℕ, ◌+◌, ◌-◌, ◌<◌, ◌≤◌, List, length, set, drop, Option, None, refl, ap, ◌∙◌, arith, ⊎_elim, IsTrue, ◌↔◌, nat_le}
use Rattle.std.proofs.lemmas.List.{length-take-le, length-drop}
use Rattle.std.proofs.lemmas.Bool.{cases_eq, leb-true, le-leb}
use Rattle.byte_fields.specs.declared.TheConstants.{VALUE_MAX}
use Rattle.slotted_page.specs.Layout.{slots_of, offset_of, code_of, length_of, content_of, content_length, total_length, IsEntry, IsSound, FitsPage}
use Rattle.slotted_page.proofs.Slots.{length-slots_of, content_none, content_some, total-set}

-- the length of what a slot has is that in its entry
pub content_length_of : (octets : List ℕ) (slot : ℕ) → length octets ≡ 4096 → IsEntry octets slot → content_length (content_of octets slot) ≡ length_of octets slot
content_length_of octets slot size entry =
    ⊎_elim (λ (none : code_of octets slot ≡ 0). ap content_length (content_none octets slot none) ∙ omega (arith, none))
    (λ (some : code_of octets slot ≡ 0 → ⊥).
    ap content_length (content_some octets slot (offset_of octets slot) (code_of octets slot - 1) _ refl (omega (arith, some)) refl)
    ∙ length-take-le (length_of octets slot) (drop (offset_of octets slot) octets)
    (omega (arith, entry.end (omega (arith, some)), length-drop (offset_of octets slot) octets, size)))
    (cases_eq (code_of octets slot) 0)

pub short_content : (octets : List ℕ) (slot : ℕ) → IsSound octets → slot < 32 → content_length (content_of octets slot) ≤ VALUE_MAX
short_content octets slot sound below =
    let e = sound.entries slot below in
    omega (arith, content_length_of octets slot sound.size e, e.short)

-- a content and the others together
pub total_with : (octets : List ℕ) (slot : ℕ) (content : Option (List ℕ)) → slot < 32
    → total_length (set (slots_of octets) slot content) ≡ total_length (set (slots_of octets) slot None) + content_length content
total_with octets slot content inside = omega (arith, total-set (slots_of octets) slot None content (omega (arith, inside, length-slots_of octets)))

pub fits_exactly : (octets : List ℕ) (slot : ℕ) (content : Option (List ℕ)) (others own : ℕ) → slot < 32
    → others ≡ total_length (set (slots_of octets) slot None) → own ≡ content_length content → others ≤ 3952
    → IsTrue (nat_le own (3952 - others)) ↔ FitsPage (slots_of octets) slot content
fits_exactly octets slot content others own inside is_others is_own small = (
  (λ test. omega (arith, total_with octets slot content inside, is_others, is_own, small, leb-true own (3952 - others) test)),
  (λ fits. le-leb own (3952 - others) (omega (arith, total_with octets slot content inside, is_others, is_own, fits))),
)

pub too_many : (octets : List ℕ) (slot : ℕ) (content : Option (List ℕ)) (others : ℕ) → slot < 32
    → others ≡ total_length (set (slots_of octets) slot None) → 3952 < others → FitsPage (slots_of octets) slot content → ⊥
too_many octets slot content others inside is_others many fits = omega (arith, total_with octets slot content inside, is_others, many, fits)
