-- How many units live, and which number is the highest.
use Rattle.sealed_ring.proofs.Names.{◌≡◌, ◌⊎◌, inl, inr, ℕ, zero, suc, ◌+◌, ◌<◌, List, true, refl, arith, cases_Bool, cases_lt, cond-true, cond-false, LiveCount, HiIsHighest, counts, hi_below, Shape}
use Rattle.sealed_ring.specs.Ring.{number}
use Rattle.sealed_ring.proofs.Alters.{length-units}
use Rattle.sealed_ring.proofs.Highest.{hi_at_least}

pub live_count : LiveCount
live_count s c = length-units s c _ _

-- the highest number of the first k slots is one of them
some_highest : (s : Shape) (c : List ℕ) (k : ℕ) → (hi_below s c k ≡ 0) ⊎ ((j : ℕ) × (j < k) × (counts s c j ≡ true) × (hi_below s c k ≡ number s c j + 1))
some_highest s c zero = inl refl
some_highest s c (suc k) = elim (cases_Bool (counts s c k)) [
  | inl does ↦
      let is = cond-true (counts s c k) (number s c k + 1) 0 does in
      elim (cases_lt (number s c k + 1) (hi_below s c k)) [
        | inl above ↦ elim (some_highest s c k) [
          | inl none ↦ absurd (omega arith)
          | inr some ↦ inr (some.0, (let lt = some.1 in omega arith), some.2, (let same = some.3 in omega (arith, is, above, same)))
        ]
        | inr here ↦ inr (k, omega arith, does, omega (arith, is, here))
      ]
  | inr fails ↦
      let is = cond-false (counts s c k) (number s c k + 1) 0 fails in
      elim (some_highest s c k) [
        | inl none ↦ inl (omega (arith, is, none))
        | inr some ↦ inr (some.0, (let lt = some.1 in omega arith), some.2, (let same = some.3 in omega (arith, is, same)))
      ]
]

pub hi_is_highest : HiIsHighest
hi_is_highest s c = (λ j lt does. hi_at_least s c j s.slots lt does, some_highest s c s.slots)
