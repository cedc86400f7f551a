-- The values of a sound page have room in its heap: they overlap nowhere.
use Rattle.std.proofs.lemmas.Grind.{common_steps}
use Rattle.image_check.proofs.Names.{◌≡◌, inl, inr, ℕ, zero, suc, ◌+◌, ◌-◌, ◌*◌, ◌≤◌, ◌<◌, Bool, true, false, cond, ◌&&◌, ◌||◌, nat_le, nat_lt, Some, None, List, refl, ap, ◌∙◌, arith, and_from, and_parts, le-leb, leb-true, lt-ltb, ltb-true, range_with_len, sum_by, Content, content_at, page_room, IsSound, content_length, offset_of, slots_of}
use Rattle.std.proofs.lemmas.List.Sums.{sum_by-cons}
use Rattle.log_records.specs.Room.{total_on}
use Rattle.slotted_page.specs.Layout.{length_of}
use Rattle.slotted_page.proofs.Lengths.{content_length_of}
use Rattle.slotted_page.proofs.Slots.{get_or-slots_of}
use Rattle.record_model.specs.State as model

-- one number more at the end
pub sum_last : (f : ℕ → ℕ) (a n : ℕ) → sum_by f (range_with_len a (suc n)) ≡ sum_by f (range_with_len a n) + f (a + n)
sum_last f a zero = grind (arith, common_steps, sum_by-cons)
sum_last f a (suc n) = grind (arith, common_steps, sum_by-cons, (sum_last f (a + 1) n))

-- How many of n numbers from one on pass a test.

abbrev count : (ℕ → Bool) → ℕ → ℕ → ℕ
count f base zero = 0
count f base (suc n) = cond (f base) 1 0 + count f (base + 1) n

count_few : (f : ℕ → Bool) (base n : ℕ) → count f base n ≤ n
count_few f base zero = grind (arith, common_steps)
count_few f base (suc n) = grind (arith, common_steps, (count_few f (base + 1) n))

count_both : (f g : ℕ → Bool) (base n : ℕ) → ((p : ℕ) → f p ≡ true → g p ≡ true → ⊥) → count f base n + count g base n ≤ count (λ p. f p || g p) base n
count_both f g base zero apart = grind (arith, common_steps)
count_both f g base (suc n) apart = grind (arith, common_steps, (count_both f g (base + 1) n apart))

abbrev is_in : ℕ → ℕ → ℕ → Bool
is_in from to p = nat_le from p && nat_lt p to

-- those of a range within
count_in : (from to base n k : ℕ) → from ≤ base → base + k ≤ to → k ≤ n → k ≤ count (is_in from to) base n
count_in from to base n zero low high few = grind (arith, common_steps)
count_in from to base zero (suc k) low high few = grind (arith, common_steps)
count_in from to base (suc n) (suc k) low high few = grind (arith, common_steps, and_from, nat_le, nat_lt, le-leb, lt-ltb, (count_in from to (base + 1) n k (omega (arith, low)) (omega (arith, high)) (omega (arith, few))))

count_inside : (from to base n d : ℕ) → base + d ≡ from → from ≤ to → to ≤ base + n → to - from ≤ count (is_in from to) base n
count_inside from to base n zero at order within = grind (arith, common_steps, count_in)
count_inside from to base zero (suc d) at order within = grind (arith, common_steps)
count_inside from to base (suc n) (suc d) at order within = grind (arith, common_steps, (count_inside from to (base + 1) n d (omega (arith, at)) order (omega (arith, within))))

-- The octets of a page's values.

module _ (octets : List ℕ) (sound : IsSound octets) (base size : ℕ) (first : base ≡ 144) (last : base + size ≡ 4096) where
  abbrev in_slot : ℕ → ℕ → Bool
  in_slot slot = is_in (offset_of octets slot) (offset_of octets slot + length_of octets slot)

  -- whether one of the first slots has this octet
  abbrev covered : ℕ → ℕ → Bool
  covered zero p = false
  covered (suc n) p = covered n p || in_slot n p

  bounds : (slot p : ℕ) → in_slot slot p ≡ true → (offset_of octets slot ≤ p) × (p < offset_of octets slot + length_of octets slot)
  bounds slot p here = grind (arith, common_steps, and_parts, nat_le, nat_lt, leb-true, ltb-true)

  apart : (a b p : ℕ) → a < b → b < 32 → in_slot a p ≡ true → in_slot b p ≡ true → ⊥
  apart a b p order less left right =
      let one = bounds a p left in
      let other = bounds b p right in
      let low = one.0 in
      let high = one.1 in
      let low' = other.0 in
      let high' = other.1 in
      elim ((sound.apart a b order less).disjoint (omega (arith, low, high)) (omega (arith, low', high'))) [
        | inl before ↦ omega (arith, before, low', high)
        | inr behind ↦ omega (arith, behind, low, high')
      ]

  -- no octet belongs to two of them
  twice : (n slot p : ℕ) → n ≤ slot → slot < 32 → covered n p ≡ true → in_slot slot p ≡ true → ⊥
  twice zero slot p order less before here = grind (arith, common_steps)
  twice (suc n) slot p order less before here = grind (arith, common_steps, apart, (twice n slot p (omega (arith, order)) less))

  slot_counted : (slot : ℕ) → slot < 32 → length_of octets slot ≤ count (in_slot slot) base size
  slot_counted slot less = by (length_of octets slot) refl where
    by : (k : ℕ) → length_of octets slot ≡ k → k ≤ count (in_slot slot) base size
    by zero is = omega arith
    by (suc k) is =
        let entry = sound.entries slot less in
        let used = sound.used in
        let begin = entry.begin (omega (arith, is)) in
        let end = entry.end (omega (arith, is)) in
        let all = count_inside (offset_of octets slot) (offset_of octets slot + length_of octets slot) base size (offset_of octets slot - base) (omega (arith, used, begin, first)) (omega arith) (omega (arith, end, last)) in
        omega (arith, is, all)

  first_fit : (f : ℕ → ℕ) (a n : ℕ) → n ≤ 32 → ((slot : ℕ) → slot < n → f (a + slot) ≡ length_of octets slot) → sum_by f (range_with_len a n) ≤ count (covered n) base size
  first_fit f a zero few each = omega arith
  first_fit f a (suc n) few each =
      let before = first_fit f a n (omega (arith, few)) (λ slot less. each slot (omega (arith, less))) in
      let here = each n (omega arith) in
      let own = slot_counted n few in
      let both = count_both (covered n) (in_slot n) base size (λ p b h. twice n n p (omega arith) few b h) in
      let sums = sum_last f a n in
      added (sum_by f (range_with_len a (suc n))) (sum_by f (range_with_len a n)) (f (a + n)) (length_of octets n) (count (covered n) base size) (count (in_slot n) base size) (count (covered (suc n)) base size) before here own both sums
    where
      added : (all sum last own covers counts most : ℕ) → sum ≤ covers → last ≡ own → own ≤ counts → covers + counts ≤ most → all ≡ sum + last → all ≤ most
      added all sum last own covers counts most a b c d e = omega (arith, a, b, c, d, e)

pub values_fit : (octets : List ℕ) (f : ℕ → ℕ) (page : ℕ) → IsSound octets → ((slot : ℕ) → slot < 32 → f (32 * page + slot) ≡ length_of octets slot) → total_on page f ≤ page_room
unfolding total_on
values_fit octets f page sound each = by 3952 refl where
  by : (size : ℕ) → size ≡ page_room → sum_by f (range_with_len (32 * page) 32) ≤ page_room
  by size is =
      let all = first_fit octets sound 144 size refl (omega (arith, is)) f (32 * page) 32 (omega arith) each in
      let few = count_few (covered octets sound 144 size refl (omega (arith, is)) 32) 144 size in
      omega (arith, all, few, is)

-- of a version
length_is : (c : Content) → model.length_of c ≡ content_length c
length_is (Some value) = refl
length_is None = refl

pub slot_length : (octets : List ℕ) (slot : ℕ) → IsSound octets → slot < 32 → model.length_of (content_at (slots_of octets) slot) ≡ length_of octets slot
slot_length octets slot sound less =
    length_is (content_at (slots_of octets) slot) ∙ ap content_length (get_or-slots_of octets slot None less) ∙ content_length_of octets slot sound.size (sound.entries slot less)
