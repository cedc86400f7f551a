-- The slots of a page, one by one and as a list.
use Rattle.std.proofs.Common.{◌≡◌, ◌≢◌, ℕ, ◌+◌, ◌-◌, ◌<◌, List, length, set, get_or, take, drop, Option, Some, None, refl, sym, ap, ◌∙◌, arith, ⊎_elim, get_or-set_same, get_or-set_other}
use Rattle.std.proofs.lemmas.List.{same_lists, length-set}
use Rattle.std.proofs.lemmas.List.FromFn.{get_or-map-range_with_len, length-map-range_with_len}
use Rattle.std.proofs.lemmas.List.Sums.{sum_by-set}
use Rattle.std.proofs.lemmas.Bool.{cases_eq, eq-eqb, ne_eqb, cond-true, cond-false}
use Rattle.slotted_page.specs.Layout.{slots_of, content_of, offset_of, code_of, length_of, content_length, total_length}
use Rattle.slotted_page.specs.Changes.{Sets}

pub length-slots_of : (octets : List ℕ) → length (slots_of octets) ≡ 32
unfolding slots_of
length-slots_of octets = length-map-range_with_len (content_of octets) 0 32

pub get_or-slots_of : (octets : List ℕ) (slot : ℕ) (d : Option (List ℕ)) → slot < 32 → get_or (slots_of octets) slot d ≡ content_of octets slot
unfolding slots_of
get_or-slots_of octets slot d below = get_or-map-range_with_len (content_of octets) 0 32 slot slot d below (omega arith)

-- pages whose slots have the same contents
pub same_slots : (old new : List ℕ) → ((k : ℕ) → k < 32 → content_of new k ≡ content_of old k) → slots_of new ≡ slots_of old
same_slots old new same =
    same_lists (slots_of new) (slots_of old) (length-slots_of new ∙ sym (length-slots_of old)) (λ k d less.
    let below : k < 32 = omega (arith, less, length-slots_of new) in
    get_or-slots_of new k d below ∙ same k below ∙ sym (get_or-slots_of old k d below))

-- and the other way round
pub same_content : (old new : List ℕ) (k : ℕ) → slots_of new ≡ slots_of old → k < 32 → content_of new k ≡ content_of old k
same_content old new k same below =
    sym (get_or-slots_of new k None below) ∙ ap (λ (slots : List (Option (List ℕ))). get_or slots k None) same ∙ get_or-slots_of old k None below

-- a page of which one slot has another content
pub slots_of-Sets : (old new : List ℕ) (slot : ℕ) (content : Option (List ℕ)) → slot < 32 → Sets old new slot content
    → slots_of new ≡ set (slots_of old) slot content
slots_of-Sets old new slot content inside sets =
    same_lists (slots_of new) (set (slots_of old) slot content) (length-slots_of new ∙ sym (length-set (slots_of old) slot content ∙ length-slots_of old)) (λ k d less.
    let below : k < 32 = omega (arith, less, length-slots_of new) in
    ⊎_elim (λ (here : k ≡ slot).
    get_or-slots_of new k d below
    ∙ ap (content_of new) here ∙ sets.own
    ∙ sym (ap (λ n. get_or (set (slots_of old) slot content) n d) here ∙ get_or-set_same (slots_of old) slot content d (omega (arith, inside, length-slots_of old))))
    (λ (other : k ≢ slot).
    get_or-slots_of new k d below
    ∙ sets.others k below other
    ∙ sym (get_or-set_other (slots_of old) slot k content d other ∙ get_or-slots_of old k d below))
    (cases_eq k slot))

-- What a slot has, by its entry.

pub content_none : (octets : List ℕ) (slot : ℕ) → code_of octets slot ≡ 0 → content_of octets slot ≡ None
content_none octets slot none = cond-true _ None _ (eq-eqb _ _ none)

pub content_some : (octets : List ℕ) (slot offset n : ℕ) (value : List ℕ) → offset_of octets slot ≡ offset → code_of octets slot ≡ n + 1
    → take n (drop offset octets) ≡ value → content_of octets slot ≡ Some value
content_some octets slot offset n value begin code is =
    let len : code_of octets slot - 1 ≡ n = omega (arith, code) in
    cond-false _ None _ (ne_eqb _ _ (λ (none : code_of octets slot ≡ 0). omega (arith, none, code)))
    ∙ ap Some (ap (λ m. take m (drop (offset_of octets slot) octets)) len ∙ ap (λ m. take n (drop m octets)) begin ∙ is)

-- two pages in which a slot has the same entry, and the same octets where its value stands
pub content_alike : (old new : List ℕ) (slot : ℕ) → offset_of new slot ≡ offset_of old slot → code_of new slot ≡ code_of old slot
    → (0 < code_of old slot → take (length_of old slot) (drop (offset_of old slot) new) ≡ take (length_of old slot) (drop (offset_of old slot) old))
    → content_of new slot ≡ content_of old slot
content_alike old new slot offset code heap =
    ⊎_elim (λ (none : code_of old slot ≡ 0). content_none new slot (code ∙ none) ∙ sym (content_none old slot none))
    (λ (some : code_of old slot ≡ 0 → ⊥).
    let one : code_of old slot ≡ (code_of old slot - 1) + 1 = omega (arith, some) in
    content_some new slot (offset_of old slot) (code_of old slot - 1) (take (length_of old slot) (drop (offset_of old slot) old)) offset (code ∙ one)
    (heap (omega (arith, one)))
    ∙ sym (content_some old slot (offset_of old slot) (code_of old slot - 1) (take (length_of old slot) (drop (offset_of old slot) old)) refl one refl))
    (cases_eq (code_of old slot) 0)

-- and all octets behind it
pub content_same : (old new : List ℕ) (slot : ℕ) → offset_of new slot ≡ offset_of old slot → code_of new slot ≡ code_of old slot
    → (0 < code_of old slot → drop (offset_of old slot) new ≡ drop (offset_of old slot) old) → content_of new slot ≡ content_of old slot
content_same old new slot offset code heap = content_alike old new slot offset code (λ some. ap (take (length_of old slot)) (heap some))

-- Room.

-- a content in place of another
pub total-set : (slots : List (Option (List ℕ))) (slot : ℕ) (old new : Option (List ℕ)) → slot < length slots
    → total_length (set slots slot new) + content_length old ≡ total_length (set slots slot old) + content_length new
total-set slots slot old new inside = omega (
  arith,
  sum_by-set content_length slots slot new None inside,
  sum_by-set content_length slots slot old None inside,
)
