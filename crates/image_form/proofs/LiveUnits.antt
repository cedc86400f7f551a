-- The live units of a ring, one by one and as a list.
use Rattle.std.proofs.lemmas.Grind.{common_steps}
use Rattle.image_form.proofs.Names.{◌≡◌, ℕ, zero, suc, ◌+◌, ◌-◌, ◌%◌, ◌≤◌, ◌<◌, min, List, refl, subst, arith, AllByRecursion, octets_of, units_on, OfLive, unit_is, live_count, IsLive, hi_of, content_at, units_from, unit_at, Shape, Image, all_at}

pub all_from : (P : List ℕ → Type 0) (s : Shape) (c : List ℕ) (first k : ℕ) → ((i : ℕ) → i < k → P (content_at s c ((first + i) % s.slots))) → AllByRecursion P (units_from s c first k)
all_from P s c first zero each = tt
all_from P s c first (suc k) each =
    let here : first + 0 ≡ first = omega arith in (
      subst (λ (n : ℕ). P (content_at s c (n % s.slots))) here (each 0 (omega arith)),
      all_from P s c (first + 1) k (λ i less.
          let there : first + suc i ≡ first + 1 + i = omega arith in
          subst (λ (n : ℕ). P (content_at s c (n % s.slots))) there (each (suc i) (omega (arith, less)))),
    )

pub all_live : (P : List ℕ → Type 0) (s : Shape) (image : Image) → 3 ≤ s.slots → OfLive s image (λ n. P (unit_at s (units_on s image) n)) → AllByRecursion P (units_on s image).live
all_live P s image slots each =
    let c : List ℕ = octets_of s image in
    let hi : ℕ = hi_of s c in
    all_from P s c (hi - (s.slots - 1)) (min hi (s.slots - 1)) (λ i less.
    let n : ℕ = hi - (s.slots - 1) + i in
    let live : IsLive s hi n = record { below = omega (arith, less, slots); near = omega (arith, less, slots) } in
    subst P (unit_is s hi n c slots refl live) (each n live))

pub each_live : (P : List ℕ → Type 0) (s : Shape) (image : Image) → 3 ≤ s.slots → AllByRecursion P (units_on s image).live → OfLive s image (λ n. P (unit_at s (units_on s image) n))
each_live P s image slots all n live = grind (arith, common_steps, live_count, all_at)
