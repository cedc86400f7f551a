-- What was read of one live unit of a ring, and of all.
use Rattle.std.proofs.lemmas.Grind.{common_steps}
use Rattle.image_form.proofs.Names.{◌≡◌, inl, inr, ℕ, ◌+◌, ◌-◌, ◌≤◌, ◌<◌, IsTrue, List, take, drop, sym, ap, ◌∙◌, subst, arith, cases_eq, take-take, Ok, units_on, unit_is, region, units_in, Matches, IsLive, hi_of, unit_at, Ring, Shape, stays_honest, State, Image, OnlyReads}
use Rattle.image_form.proofs.Lasting.{fits_later}

-- a unit that was read whole, from a ring of this shape
pub unit_read : (s : Shape) (ring : Ring) (site : State) (n : ℕ) (read : List ℕ) → 3 ≤ s.slots → ring.shape ≡ s → Matches ring site → IsLive ring.shape ring.hi n →
    read ≡ take ring.shape.room (drop 0 (unit_at ring.shape (units_in ring.shape site) n)) → read ≡ unit_at s (units_on s site.image) n
unit_read s ring site n read slots shape fits live is = grind (arith, common_steps, unit_is, take-take)

-- where a ring that was found ends
pub end_is : (s : Shape) (ring : Ring) (site : State) → ring.shape ≡ s → Matches ring site → ring.hi ≡ hi_of s (region s site)
end_is s ring site shape fits = fits ∙ ap (λ (t : Shape). hi_of t (region t site)) shape

-- a unit from the oldest one on is live
pub live_there : (s : Shape) (ring : Ring) (site : State) (n : ℕ) → ring.shape ≡ s → Matches ring site → ring.hi ≤ n + (ring.shape.slots - 1) → n < ring.hi → IsLive s (hi_of s (region s site)) n
live_there s ring site n shape fits near below =
    subst (λ (t : Shape). IsLive t (hi_of t (region t site)) n) shape (subst (λ (h : ℕ). IsLive ring.shape h n) fits (record { below = below; near = omega (arith, near, below) }))

-- and one that was read whole after calls that only read is that of the content at entry
pub read_whole : (s : Shape) (ring : Ring) (old now : State) (n len : ℕ) (read : List ℕ) → 3 ≤ s.slots → len ≡ s.room → ring.shape ≡ s → OnlyReads {T = Unit {0}} (Ok tt) old now → IsTrue old.honest → Matches ring old →
    ring.hi ≤ n + (ring.shape.slots - 1) → n < ring.hi → (IsTrue now.honest → Matches ring now → read ≡ take len (drop 0 (unit_at ring.shape (units_in ring.shape now) n))) → read ≡ unit_at s (units_on s old.image) n
read_whole s ring old now n len read slots room shape reads honest fits near below part = grind (arith, common_steps, fits_later, unit_read, stays_honest)

-- one unit more
pub one_more : (P : List ℕ → Type 0) (s : Shape) (image : Image) (hi at : ℕ) → P (unit_at s (units_on s image) at) → ((n : ℕ) → IsLive s hi n → n < at → P (unit_at s (units_on s image) n)) →
    (n : ℕ) → IsLive s hi n → n < at + 1 → P (unit_at s (units_on s image) n)
one_more P s image hi at here before n live below = elim (cases_eq n at) [
  | inl same ↦ subst (λ (k : ℕ). P (unit_at s (units_on s image) k)) (sym same) here
  | inr other ↦ before n live (omega (arith, below, other))
]
