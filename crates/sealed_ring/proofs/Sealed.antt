-- What staging and opening come to.
use Rattle.sealed_ring.proofs.Names.{◌≡◌, ◌≢◌, inl, inr, ℕ, ◌+◌, ◌%◌, ◌^◌, ◌≤◌, ◌<◌, List, length, true, nat_eq, sym, ◌∙◌, subst, arith, cases_eq, and_parts, and_from, eqb-true, eq-eqb, mod_below, FitsIn, place, IsBeside, gate, counts, hi_of, SameOutside, HasForm, Keeps, IsStaged, Adds, Stages, Opens, Seals, Shape}
use Rattle.sealed_ring.specs.Ring.{number}
use Rattle.sealed_ring.proofs.Rows.{mod_apart}
use Rattle.sealed_ring.proofs.Alters.{Alters, next_alters, is_opened, number_same, content_same}
use Rattle.sealed_ring.proofs.Places.{alters_by, alters_gate, slot_beside, body_not_gate, gates_apart}
use Rattle.sealed_ring.proofs.Highest.{hi_at_most, hi_at_least}

module _ (s : Shape) (hi : ℕ) (bytes old : List ℕ) (fits : FitsIn s (length old)) where
  slot : (n : ℕ) → n % s.slots < s.slots
  slot n = mod_below n s.slots (omega (arith, fits.slots))

  next_apart : hi % s.slots ≢ (hi + 1) % s.slots
  next_apart = mod_apart hi (hi + 1) s.slots (omega arith) (omega (arith, fits.slots))

  -- a ring of the form keeps its units, and has its next one staged
  pub stages_keeps : (now : List ℕ) → HasForm s hi old → Stages s hi bytes old now → Keeps s hi old now
  stages_keeps now form st =
      next_alters s hi old now fits.slots form (alters_by s (length old) fits old now (hi % s.slots) ((hi + 1) % s.slots) (slot hi) (slot (hi + 1)) st.size st.others)

  pub is_staged : (now : List ℕ) → HasForm s hi old → Stages s hi bytes old now → IsStaged s hi now
  is_staged now form st = grind (arith, stages_keeps)

  -- the opening changes one gate
  gate_alters : (now : List ℕ) → Opens s hi old now → Alters s s.slots (hi % s.slots) old now
  gate_alters now o = alters_gate s (length old) fits old now (hi % s.slots) (slot hi) o.size o.others

  pub opens_adds : (now : List ℕ) → hi < 2 ^ 40 → IsStaged s hi old → Opens s hi old now → Adds s hi old now
  opens_adds now small staged o = is_opened s hi old now fits.slots staged (gate_alters now o) o.opened small

-- one after the other
pub seals : (s : Shape) (hi : ℕ) (bytes old mid now : List ℕ) → FitsIn s (length old) → Stages s hi bytes old mid → Opens s hi mid now → Seals s hi bytes old now
seals s hi bytes old mid now fits st o =
    let fits_mid : FitsIn s (length mid) = subst (FitsIn s) (sym st.size) fits in
    let a = gate_alters s hi bytes mid fits_mid now o in
    let j_in = slot s hi bytes old fits hi in
    let part = a.parts (hi % s.slots) j_in (omega arith) in record {
      size = o.size ∙ st.size;
      opened = o.opened;
      number = number_same s (hi % s.slots) mid now o.size part ∙ st.number;
      content = content_same s (hi % s.slots) mid now o.size part ∙ st.content;
      next = a.gates ((hi + 1) % s.slots) (slot s hi bytes old fits (hi + 1)) (λ same. next_apart s hi bytes old fits (sym same)) ∙ st.next;
      others = λ p beside ne. o.others p (not_gate (place s (hi % s.slots)) p beside) ∙ st.others p (behind_gate (place s (hi % s.slots)) p beside) ne;
    }
  where
    not_gate : (at p : ℕ) → IsBeside at (9 + s.room) p → p ≢ at
    not_gate at p (inl below) same = omega arith
    not_gate at p (inr behind) same = omega arith

    behind_gate : (at p : ℕ) → IsBeside at (9 + s.room) p → IsBeside (at + 1) (8 + s.room) p
    behind_gate at p (inl below) = inl (omega arith)
    behind_gate at p (inr behind) = inr (omega arith)

-- the new unit is the highest, whatever stood in the ring
module _ (s : Shape) (hi : ℕ) (bytes old now : List ℕ) (fits : FitsIn s (length old)) (is : Seals s hi bytes old now) where
  newest : counts s now (hi % s.slots) ≡ true
  newest = grind (arith, and_from, nat_eq, eq-eqb)

  number_now : (k : ℕ) → k ≢ hi % s.slots → number s now k ≡ number s old k
  number_now k ne = number_same s k old now is.size (λ p lo hi'. is.others p
      (slot_beside s (length old) fits k (hi % s.slots) p ne (omega arith) hi')
      (body_not_gate s (length old) fits k ((hi + 1) % s.slots) p lo hi'))

  gate_now : (k : ℕ) → k ≢ hi % s.slots → k ≢ (hi + 1) % s.slots → gate s now k ≡ gate s old k
  gate_now k ne other = is.others (place s k)
      (slot_beside s (length old) fits k (hi % s.slots) (place s k) ne (omega arith) (omega arith))
      (gates_apart s (length old) fits k ((hi + 1) % s.slots) other)

  older : hi ≡ hi_of s old → (k : ℕ) → k < s.slots → counts s now k ≡ true → number s now k < hi + 1
  older same k lt does = grind (arith, and_parts, nat_eq, eqb-true, cases_eq, and_from, eq-eqb, gate_now, number_now, hi_at_least)

  pub seals_hi : hi ≡ hi_of s old → hi + 1 ≡ hi_of s now
  seals_hi same =
      let most : hi_of s now ≤ hi + 1 = hi_at_most s now (hi + 1) s.slots (older same) in
      let least : number s now (hi % s.slots) < hi_of s now = hi_at_least s now (hi % s.slots) s.slots (mod_below hi s.slots (omega (arith, fits.slots))) newest in
      let number_is = is.number in
      omega arith

  -- and all outside the ring is as it was
  pub sealed_outside : SameOutside s old now
  sealed_outside p out = grind (arith, mod_below)
