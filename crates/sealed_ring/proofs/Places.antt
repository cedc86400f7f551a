-- Where the gates and bodies of slots lie: no two of them overlap.
use Rattle.sealed_ring.proofs.Names.{◌≡◌, ◌≢◌, inl, inr, ⊎_elim, ℕ, ◌+◌, ◌*◌, ◌≤◌, ◌<◌, List, [], ◌∷◌, length, get_or, refl, ap, arith, false, cases_lt, cases_order, or_from, FitsIn, place, IsBeside, Shape, within_not, put_below, put_behind, put, range, MayStand, is_within}
use Rattle.sealed_ring.proofs.Rows.{rows_apart}
use Rattle.sealed_ring.proofs.Alters.{Alters}

module _ (s : Shape) (len : ℕ) (fits : FitsIn s len) where
  pub ends : (j : ℕ) → j < s.slots → place s j + s.stride ≤ s.base + s.slots * s.stride
  ends j lt = omega (arith, rows_apart j s.slots s.stride lt)

  apart : (i j : ℕ) → i < j → place s i + s.stride ≤ place s j
  apart i j lt = omega (arith, rows_apart i j s.stride lt)

  pub body_fits : (j : ℕ) → j < s.slots → place s j + 1 + (8 + s.room) ≤ len
  body_fits j lt = omega (arith, ends j lt, fits.stride, fits.inside)

  pub gates_apart : (i j : ℕ) → i ≢ j → place s i ≢ place s j
  gates_apart i j ne same = ⊎_elim (λ e. ne e) (⊎_elim (λ lt. omega (arith, apart i j lt, fits.stride)) (λ lt. omega (arith, apart j i lt, fits.stride))) (cases_order i j)

  pub body_not_gate : (j g p : ℕ) → place s j + 1 ≤ p → p < place s j + 1 + (8 + s.room) → p ≢ place s g
  body_not_gate j g p lo hi same = ⊎_elim (λ e. let f : place s j ≡ place s g = ap (place s) e in omega (arith, f)) (⊎_elim (λ lt. omega (arith, apart j g lt, fits.stride)) (λ lt. omega (arith, apart g j lt, fits.stride))) (cases_order j g)

  body_beside : (j b p : ℕ) → j ≢ b → place s j + 1 ≤ p → p < place s j + 1 + (8 + s.room) → IsBeside (place s b + 1) (8 + s.room) p
  body_beside j b p ne lo hi = ⊎_elim (λ e. absurd (ne e)) (⊎_elim (λ lt. inl (omega (arith, apart j b lt, fits.stride))) (λ lt. inr (omega (arith, apart b j lt, fits.stride)))) (cases_order j b)

  pub slot_beside : (j b p : ℕ) → j ≢ b → place s j ≤ p → p < place s j + 1 + (8 + s.room) → IsBeside (place s b) (9 + s.room) p
  slot_beside j b p ne lo hi = ⊎_elim (λ e. absurd (ne e)) (⊎_elim (λ lt. inl (omega (arith, apart j b lt, fits.stride))) (λ lt. inr (omega (arith, apart b j lt, fits.stride)))) (cases_order j b)

  gate_beside : (j b : ℕ) → IsBeside (place s b + 1) (8 + s.room) (place s j)
  gate_beside j b = ⊎_elim (λ e. inl (let f : place s j ≡ place s b = ap (place s) e in omega (arith, f))) (⊎_elim (λ lt. inl (omega (arith, apart j b lt, fits.stride))) (λ lt. inr (omega (arith, apart b j lt, fits.stride)))) (cases_order j b)

  outside_beside : (b p : ℕ) → b < s.slots → ((j : ℕ) → j < s.slots → IsBeside (place s j) (9 + s.room) p) → IsBeside (place s b + 1) (8 + s.room) p
  outside_beside b p lt out = ⊎_elim (λ lo. inl (omega arith)) (λ hi. inr (omega arith)) (out b lt)

  outside_not_gate : (g p : ℕ) → g < s.slots → ((j : ℕ) → j < s.slots → IsBeside (place s j) (9 + s.room) p) → p ≢ place s g
  outside_not_gate g p lt out same = ⊎_elim (λ lo. omega arith) (λ hi. omega arith) (out g lt)

  -- what differs only in the body of one slot and the gate of one
  pub alters_by : (old new : List ℕ) (b g : ℕ) → b < s.slots → g < s.slots → length new ≡ length old → ((p : ℕ) → IsBeside (place s b + 1) (8 + s.room) p → p ≢ place s g → get_or new p 0 ≡ get_or old p 0) → Alters s b g old new
  alters_by old new b g b_in g_in size same = grind (arith, body_beside, body_not_gate, gate_beside, gates_apart, outside_beside, outside_not_gate)

  -- what differs only in the gate of one slot
  pub alters_gate : (old new : List ℕ) (g : ℕ) → g < s.slots → length new ≡ length old → ((p : ℕ) → p ≢ place s g → get_or new p 0 ≡ get_or old p 0) → Alters s s.slots g old new
  alters_gate old new g g_in size same = record {
    size = size;
    parts = λ j lt ne p lo hi. same p (body_not_gate j g p lo hi);
    gates = λ j lt ne. same (place s j) (gates_apart j g ne);
    outside = λ p out. same p (outside_not_gate g p g_in out);
  }

-- one range loose: octets beside it are as they were
pub one_loose : (at n : ℕ) (old now : List ℕ) → MayStand (range at n ∷ []) old now → (p : ℕ) → IsBeside at n p → get_or now p 0 ≡ get_or old p 0
one_loose at n old now m p beside = m.kept p (or_from (is_within (range at n) p) false (within_not at n p beside) refl)

-- octets beside what was written are as they were
pub put_beside : (c : List ℕ) (at : ℕ) (bytes : List ℕ) (p : ℕ) → at + length bytes ≤ length c → IsBeside at (length bytes) p → get_or (put c at bytes) p 0 ≡ get_or c p 0
put_beside c at bytes p fits (inl below) = put_below c at bytes p fits below
put_beside c at bytes p fits (inr behind) = put_behind c at bytes p fits behind

pub beside_one : (g p : ℕ) → p ≢ g → IsBeside g 1 p
beside_one g p ne = elim (cases_lt p g) [ inl lt ↦ inl lt | inr le ↦ inr (omega arith) ]

-- two ranges loose, the older one written: octets beside both are as they were
pub two_loose : (g at : ℕ) (bytes old now : List ℕ) → at + length bytes ≤ length old → MayStand (range g 1 ∷ range at (length bytes) ∷ []) (put old at bytes) now → (p : ℕ) → IsBeside at (length bytes) p → p ≢ g → get_or now p 0 ≡ get_or old p 0
two_loose g at bytes old now fits m p beside ne = grind (arith, or_from, beside_one, put_beside)
