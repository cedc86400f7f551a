-- What the definitions say of small contents.
use Rattle.sealed_ring.proofs.Names.{◌≡◌, ℕ, ◌+◌, ◌-◌, ◌^◌, ◌≤◌, ◌<◌, List, [], ◌∷◌, length, min, get_or, take, drop, replicate, refl, sym, ◌∙◌, ap, arith, same_lists, length-take, length-drop, get_or-take, get_or-drop, get_or_default, get_or-replicate, from_be_bytes, w64, BlankIsRing, FitsIn, place, HasForm, IsRing, Units, units_from, units_of, hi_of, appended, Shape}
use Rattle.site.specs.declared.outside.Dev.TheVariants.{Log}
use Rattle.sealed_ring.specs.Ring.{number}
use Rattle.sealed_ring.proofs.Rows.{mod_self}
use Rattle.sealed_ring.proofs.Places.{body_fits}
use Rattle.sealed_ring.proofs.Highest.{hi_is}
use Rattle.sealed_ring.proofs.Whole.{ring_at, units_at}

small : Shape
small = record { dev = Log; base = 1; slots = 3; stride = 15; room = 4 }

-- slot 0 has unit 3, slot 1 unit 4, slot 2 the old unit 2 behind a closed gate
content : List ℕ
content = 9
    ∷ 165 ∷ 0 ∷ 0 ∷ 0 ∷ 0 ∷ 0 ∷ 0 ∷ 0 ∷ 3 ∷ 30 ∷ 31 ∷ 32 ∷ 33 ∷ 0 ∷ 0
    ∷ 165 ∷ 0 ∷ 0 ∷ 0 ∷ 0 ∷ 0 ∷ 0 ∷ 0 ∷ 4 ∷ 40 ∷ 41 ∷ 42 ∷ 43 ∷ 0 ∷ 0
    ∷ 0 ∷ 0 ∷ 0 ∷ 0 ∷ 0 ∷ 0 ∷ 0 ∷ 0 ∷ 2 ∷ 20 ∷ 21 ∷ 22 ∷ 23 ∷ 0 ∷ 0
    ∷ []

its_units : units_of small content ≡ record { hi = 5; live = (30 ∷ 31 ∷ 32 ∷ 33 ∷ []) ∷ (40 ∷ 41 ∷ 42 ∷ 43 ∷ []) ∷ [] }
unfolding number small content
its_units = refl

-- one more unit ends the oldest
one_more : appended small (units_of small content) (50 ∷ 51 ∷ 52 ∷ 53 ∷ []) ≡ record { hi = 6; live = (40 ∷ 41 ∷ 42 ∷ 43 ∷ []) ∷ (50 ∷ 51 ∷ 52 ∷ 53 ∷ []) ∷ [] }
unfolding number small content
one_more = refl

-- an open gate over the number of another slot doesn't count
loose_gate : List ℕ
loose_gate = 9
    ∷ 0 ∷ 0 ∷ 0 ∷ 0 ∷ 0 ∷ 0 ∷ 0 ∷ 0 ∷ 0 ∷ 0 ∷ 0 ∷ 0 ∷ 0 ∷ 0 ∷ 0
    ∷ 165 ∷ 0 ∷ 0 ∷ 0 ∷ 0 ∷ 0 ∷ 0 ∷ 0 ∷ 0 ∷ 0 ∷ 0 ∷ 0 ∷ 0 ∷ 0 ∷ 0
    ∷ 0 ∷ 0 ∷ 0 ∷ 0 ∷ 0 ∷ 0 ∷ 0 ∷ 0 ∷ 0 ∷ 0 ∷ 0 ∷ 0 ∷ 0 ∷ 0 ∷ 0
    ∷ []

no_units : units_of small loose_gate ≡ record { hi = 0; live = [] }
unfolding number small loose_gate
no_units = refl

-- the last units that a ring takes
worn : List ℕ
worn = 9
    ∷ 165 ∷ 0 ∷ 0 ∷ 0 ∷ 255 ∷ 255 ∷ 255 ∷ 255 ∷ 255 ∷ 1 ∷ 2 ∷ 3 ∷ 4 ∷ 0 ∷ 0
    ∷ 0 ∷ 0 ∷ 0 ∷ 0 ∷ 0 ∷ 0 ∷ 0 ∷ 0 ∷ 0 ∷ 0 ∷ 0 ∷ 0 ∷ 0 ∷ 0 ∷ 0
    ∷ 0 ∷ 0 ∷ 0 ∷ 0 ∷ 255 ∷ 255 ∷ 255 ∷ 255 ∷ 254 ∷ 5 ∷ 6 ∷ 7 ∷ 8 ∷ 0 ∷ 0
    ∷ []

last_units : units_of small worn ≡ record { hi = 2 ^ 40; live = (5 ∷ 6 ∷ 7 ∷ 8 ∷ []) ∷ (1 ∷ 2 ∷ 3 ∷ 4 ∷ []) ∷ [] }
unfolding number small worn
last_units = refl

-- blank octets are a ring of the form without units
module _ (s : Shape) (c : List ℕ) (fits : FitsIn s (length c)) (blank : (p : ℕ) → get_or c p 0 ≡ 0) where
  eight : (j : ℕ) → j < s.slots → take 8 (drop (place s j + 1) c) ≡ replicate 8 0
  eight j lt =
      let in_c : place s j + 9 ≤ length c = omega (arith, body_fits s (length c) fits j lt) in
      let long : length (take 8 (drop (place s j + 1) c)) ≡ 8 = omega (arith, length-take 8 (drop (place s j + 1) c), length-drop (place s j + 1) c) in
      same_lists _ _ long (λ k d below. let k8 : k < 8 = omega (arith, long) in
      get_or-take 8 (drop (place s j + 1) c) k d k8 ∙ get_or-drop (place s j + 1) c k d ∙ get_or_default c (place s j + 1 + k) d 0 (omega arith) ∙ blank (place s j + 1 + k) ∙ sym (get_or-replicate 8 k 0 d k8))

  zero_number : (j : ℕ) → j < s.slots → number s c j ≡ 0
  unfolding number
  zero_number j lt = ap (from_be_bytes w64) (eight j lt)

  pub blank_form : HasForm s 0 c
  blank_form = grind (arith, zero_number, mod_self)

  pub blank_ring : IsRing s c
  blank_ring = ring_at s 0 c fits.slots blank_form

  pub blank_hi : hi_of s c ≡ 0
  blank_hi = hi_is s 0 c fits.slots blank_form

pub blank_is_ring : BlankIsRing
blank_is_ring s c fits blank =
    let none : min 0 (s.slots - 1) ≡ 0 = omega arith in (
      blank_ring s c fits blank,
      units_at s 0 c fits.slots (blank_form s c fits blank)
          ∙ ap (λ (k : ℕ). let u : Units = record { hi = 0; live = units_from s c (0 - (s.slots - 1)) k } in u) none,
    )
