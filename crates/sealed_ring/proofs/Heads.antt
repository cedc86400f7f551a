-- The octets of a slot's head.
use Rattle.sealed_ring.proofs.Names.{◌≡◌, ℕ, zero, suc, ◌+◌, ◌-◌, ◌%◌, ◌≤◌, ◌<◌, List, [], get_or, take, drop, sym, ◌∙◌, ap, arith, drop-drop, drop-take, take-take, from_be_bytes, w64, place, first_number, content_at, units_from, unit_at, units_of, hi_of, IsLive, Shape}
use Rattle.sealed_ring.specs.Ring.{number}

-- the number in a head that was read
pub number_read : (s : Shape) (c head : List ℕ) (j : ℕ) → head ≡ take 9 (drop (place s j) c) → first_number (drop 1 head) ≡ number s c j
unfolding number
number_read s c head j is =
    ap first_number (ap (drop 1) is ∙ drop-take 1 8 (drop (place s j) c) ∙ ap (take 8) (drop-drop 1 (place s j) c))
    ∙ ap (from_be_bytes w64) (take-take 8 8 (drop (place s j + 1) c) (omega arith))

-- what was read from a slot's number on

pub number_front : (s : Shape) (c head : List ℕ) (j k : ℕ) → 8 ≤ k → head ≡ take k (drop (place s j + 1) c) → from_be_bytes w64 (take 8 head) ≡ number s c j
unfolding number
number_front s c head j k long is = ap (from_be_bytes w64) (ap (take 8) is ∙ take-take 8 k (drop (place s j + 1) c) long)

pub content_front : (s : Shape) (c head : List ℕ) (j k : ℕ) → 8 ≤ k → k ≤ 8 + s.room → head ≡ take k (drop (place s j + 1) c) → drop 8 head ≡ take (k - 8) (content_at s c j)
content_front s c head j k long short is =
    let split : k ≡ 8 + (k - 8) = omega arith in
    let at : place s j + 1 + 8 ≡ place s j + 9 = omega arith in
    ap (drop 8) (is ∙ ap (λ (n : ℕ). take n (drop (place s j + 1) c)) split) ∙ drop-take 8 (k - 8) (drop (place s j + 1) c)
    ∙ ap (take (k - 8)) (drop-drop 8 (place s j + 1) c ∙ ap (λ (p : ℕ). drop p c) at)
    ∙ sym (take-take (k - 8) s.room (drop (place s j + 9) c) (omega arith))

-- a part of the content, where it was read
pub part_front : (s : Shape) (c : List ℕ) (j at k : ℕ) → at + k ≤ s.room → take k (drop (place s j + 9 + at) c) ≡ take k (drop at (content_at s c j))
part_front s c j at k inside =
    let split : s.room ≡ at + (s.room - at) = omega (arith, inside) in
    sym (ap (λ (n : ℕ). take k (drop at (take n (drop (place s j + 9) c)))) split
    ∙ ap (take k) (drop-take at (s.room - at) (drop (place s j + 9) c))
    ∙ take-take k (s.room - at) (drop at (drop (place s j + 9) c)) (omega (arith, inside))
    ∙ ap (take k) (drop-drop at (place s j + 9) c))

-- the unit at a place of the live ones
pub units_from_at : (s : Shape) (c : List ℕ) (first k i : ℕ) → i < k → get_or (units_from s c first k) i [] ≡ content_at s c ((first + i) % s.slots)
units_from_at s c first zero i lt = absurd (omega arith)
units_from_at s c first (suc k) zero lt = grind arith
units_from_at s c first (suc k) (suc i) lt = grind (arith, (units_from_at s c (first + 1) k i (omega arith)))

pub unit_is : (s : Shape) (hi n : ℕ) (c : List ℕ) → 3 ≤ s.slots → hi ≡ hi_of s c → IsLive s hi n → unit_at s (units_of s c) n ≡ content_at s c (n % s.slots)
unit_is s hi n c slots is live = grind (arith, units_from_at)
