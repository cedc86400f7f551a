-- Slots one behind the other, as they were read.
use Rattle.sealed_ring.proofs.Names.{◌≡◌, ℕ, ◌+◌, ◌-◌, ◌*◌, ◌/◌, ◌%◌, ◌≤◌, ◌<◌, List, ◌++◌, length, take, drop, refl, sym, ◌∙◌, ap, arith, drop-drop, drop-take, take-take, take_at, length-take-le, div-add-mod', mod-mul-add, from_be_bytes, w64, place, first_number, units_of, hi_of, IsLive, in_row, HaveContents, HaveNumbers, StandInRow, Shape}
use Rattle.std.proofs.Math.Nat.{div-mul-le_self}
use Rattle.sealed_ring.specs.Ring.{number}
use Rattle.sealed_ring.proofs.Heads.{unit_is}
use Rattle.sealed_ring.proofs.Rows.{rows_apart}

-- so many rows are no longer than more of them
rows_within : (a b w : ℕ) → a ≤ b → a * w ≤ b * w
rows_within a b w le = grind arith

rows_add : (a b w : ℕ) → (a + b) * w ≡ a * w + b * w
rows_add a b w = grind arith

-- whole slots that are read have room where they are read into
pub slots_fit : (s : Shape) (hi n long count : ℕ) → count ≡ in_row s hi n (long / s.stride) → count * s.stride ≤ long
slots_fit s hi n long count is = grind (arith, rows_within, div-mul-le_self)

-- what was read into them is as long as they are
pub row_long : (s : Shape) (hi n count : ℕ) (into read : List ℕ) → count ≡ in_row s hi n (length into / s.stride) → length read ≡ length (take (count * s.stride) into) → length read ≡ count * s.stride
row_long s hi n count into read is same = same ∙ length-take-le (count * s.stride) into (slots_fit s hi n (length into) count is)

-- and lie inside the ring
pub row_inside : (s : Shape) (j count : ℕ) → j + count ≤ s.slots → place s j + count * s.stride ≤ s.base + s.slots * s.stride
row_inside s j count fit =
    let rows = rows_within (j + count) s.slots s.stride fit in
    let parts = rows_add j count s.stride in
    omega (arith, rows, parts)

-- units stand in slots as they follow each other, up to the last slot
pub slot_in_row : (n i m : ℕ) → n % m + i < m → (n + i) % m ≡ n % m + i
slot_in_row n i m less =
    let split : n / m * m + n % m ≡ n = div-add-mod' n m in
    let e : n + i ≡ n / m * m + (n % m + i) = omega (arith, split) in
    ap (λ (x : ℕ). x % m) e ∙ mod-mul-add (n / m) m (n % m + i) less

-- a part of a front
front_part : (xs : List ℕ) (p m k : ℕ) → p + m ≤ k → take m (drop p (take k xs)) ≡ take m (drop p xs)
front_part xs p m k inside =
    let split : k ≡ p + (k - p) = omega (arith, inside) in
    ap (λ (n : ℕ). take m (drop p (take n xs))) split ∙ ap (take m) (drop-take p (k - p) xs) ∙ take-take m (k - p) (drop p xs) (omega (arith, inside))

-- slots that were read into the front of octets
module _ (s : Shape) (count : ℕ) (read rest : List ℕ) (stride : 9 + s.room ≤ s.stride) (long : length read ≡ count * s.stride) where
  inside : (i k m : ℕ) → i < count → k + m ≤ s.stride → i * s.stride + k + m ≤ length read
  inside i k m less within = let rows = rows_apart i count s.stride less in omega (arith, rows, within, long)

  of_read : (i k m : ℕ) → i < count → k + m ≤ s.stride → take m (drop (i * s.stride + k) (read ++ rest)) ≡ take m (drop (i * s.stride + k) read)
  of_read i k m less within =
      sym (front_part (read ++ rest) (i * s.stride + k) m (length read) (inside i k m less within))
      ∙ ap (λ (l : List ℕ). take m (drop (i * s.stride + k) l)) (take_at read rest (length read) refl)

  pub numbers_in_front : (n : ℕ) → HaveNumbers s n count read → HaveNumbers s n count (read ++ rest)
  numbers_in_front n have i less = ap (from_be_bytes w64) (of_read i 1 8 less (omega (arith, stride))) ∙ have i less

  pub numbers_of_front : (n : ℕ) → HaveNumbers s n count (read ++ rest) → HaveNumbers s n count read
  numbers_of_front n have i less = sym (ap (from_be_bytes w64) (of_read i 1 8 less (omega (arith, stride)))) ∙ have i less

  -- from the slot of a unit on
  module _ (c : List ℕ) (n : ℕ) (fit : n % s.slots + count ≤ s.slots) (is : read ≡ take (count * s.stride) (drop (place s (n % s.slots)) c)) where
    of_slot : (i k m : ℕ) → i < count → k + m ≤ s.stride → take m (drop (i * s.stride + k) read) ≡ take m (drop (place s ((n + i) % s.slots) + k) c)
    of_slot i k m less within =
        let at : place s (n % s.slots) + (i * s.stride + k) ≡ place s (n % s.slots + i) + k = let parts = rows_add (n % s.slots) i s.stride in omega (arith, parts) in
        ap (λ (l : List ℕ). take m (drop (i * s.stride + k) l)) is
        ∙ front_part (drop (place s (n % s.slots)) c) (i * s.stride + k) m (count * s.stride) (let whole = inside i k m less within in omega (arith, whole, long))
        ∙ ap (take m) (drop-drop (i * s.stride + k) (place s (n % s.slots)) c)
        ∙ ap (λ (p : ℕ). take m (drop p c)) at
        ∙ ap (λ (j : ℕ). take m (drop (place s j + k) c)) (sym (slot_in_row n i s.slots (omega (arith, less, fit))))

    number_of_slot : (i : ℕ) → i < count → first_number (drop (i * s.stride + 1) read) ≡ number s c ((n + i) % s.slots)
    unfolding number
    number_of_slot i less = ap (from_be_bytes w64) (of_slot i 1 8 less (omega (arith, stride)))

    pub numbers_stand : HaveNumbers s n count read → StandInRow s n count c
    numbers_stand have i less = sym (number_of_slot i less) ∙ have i less

    pub numbers_read : StandInRow s n count c → HaveNumbers s n count read
    numbers_read stand i less = number_of_slot i less ∙ stand i less

    pub contents_read : (hi : ℕ) → 3 ≤ s.slots → hi ≡ hi_of s c → IsLive s hi n → n + count ≤ hi → HaveContents s (units_of s c) n count (read ++ rest)
    contents_read hi slots his live below i less = grind (arith, of_read, of_slot, unit_is)
