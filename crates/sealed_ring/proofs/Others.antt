-- A ring stays where only octets outside it change.
use Rattle.sealed_ring.proofs.Names.{◌≡◌, inl, inr, ℕ, zero, suc, ◌+◌, ◌%◌, ◌≤◌, ◌<◌, List, length, max, cond, nat_eq, ◌&&◌, refl, sym, ◌∙◌, ap, subst, arith, mod_below, Apart, FitsIn, place, IsBeside, gate, counts, hi_below, hi_of, live, Units, units_of, HasForm, IsRing, SameOutside, Shape}
use Rattle.sealed_ring.specs.Ring.{number}
use Rattle.sealed_ring.proofs.Alters.{SamePart, number_same, content_same, units_same}
use Rattle.sealed_ring.proofs.Places.{ends}

-- the gate and the body of each slot are the same
pub record SameSlots (t : Shape) (old new : List ℕ) : Type 0 where
  pub size : length new ≡ length old
  pub parts : (j : ℕ) → j < t.slots → SamePart (place t j + 1) (8 + t.room) old new
  pub gates : (j : ℕ) → j < t.slots → gate t new j ≡ gate t old j

module _ (t : Shape) (old new : List ℕ) (slots : 3 ≤ t.slots) (a : SameSlots t old new) where
  same_number : (j : ℕ) → j < t.slots → number t new j ≡ number t old j
  same_number j lt = number_same t j old new a.size (a.parts j lt)

  same_gate : (j : ℕ) → j < t.slots → gate t new j ≡ gate t old j
  same_gate j lt = a.gates j lt

  same_counts : (j : ℕ) → j < t.slots → counts t new j ≡ counts t old j
  same_counts j lt = λ i. nat_eq (same_gate j lt i) 165 && nat_eq (same_number j lt i % t.slots) j

  same_hi_below : (k : ℕ) → k ≤ t.slots → hi_below t new k ≡ hi_below t old k
  same_hi_below zero le = refl
  same_hi_below (suc k) le = λ i. max (same_hi_below k (omega arith) i) (cond (same_counts k (omega arith) i) (same_number k (omega arith) i + 1) 0)

  pub same_hi : hi_of t new ≡ hi_of t old
  same_hi = same_hi_below t.slots (omega arith)

  slot : (n : ℕ) → n % t.slots < t.slots
  slot n = mod_below n t.slots (omega arith)

  same_live : (hi : ℕ) → live t hi new ≡ live t hi old
  same_live hi = units_same t old new _ _ (λ n lo below. content_same t (n % t.slots) old new a.size (a.parts (n % t.slots) (slot n)))

  pub same_units : units_of t new ≡ units_of t old
  same_units = λ i. let u : Units = record { hi = same_hi i; live = ((ap (λ (h : ℕ). live t h new) same_hi) ∙ same_live (hi_of t old)) i } in u

  form_stays : (hi : ℕ) → HasForm t hi old → HasForm t hi new
  form_stays hi f = grind (arith, same_number, slot, same_gate)

  pub ring_stays : IsRing t old → IsRing t new
  ring_stays f = subst (λ (h : ℕ). HasForm t h new) (sym same_hi) (form_stays (hi_of t old) f)

-- an octet of a slot of the one is in no slot of the other
inside_apart : (s t : Shape) (len j p : ℕ) → Apart s t → FitsIn s len → FitsIn t len → j < t.slots → place t j ≤ p → p < place t j + 1 + (8 + t.room) → (i : ℕ) → i < s.slots → IsBeside (place s i) (9 + s.room) p
inside_apart s t len j p (inl below) own fits lt lo hi i in_s = inr (omega (arith, ends s len own i in_s, own.stride))
inside_apart s t len j p (inr above) own fits lt lo hi i in_s = inl (omega (arith, ends t len fits j lt, fits.stride))

-- a change inside the one leaves the other
pub leaves_others : (s t : Shape) (old new : List ℕ) → Apart s t → FitsIn s (length old) → FitsIn t (length old) → length new ≡ length old → SameOutside s old new → (units_of t new ≡ units_of t old) × (IsRing t old → IsRing t new)
leaves_others s t old new apart own fits size outside =
    let a : SameSlots t old new = record {
      size = size;
      parts = λ j lt p lo hi. outside p (inside_apart s t (length old) j p apart own fits lt (omega arith) hi);
      gates = λ j lt. outside (place t j) (inside_apart s t (length old) j (place t j) apart own fits lt (omega arith) (omega arith));
    } in
    (same_units t old new fits.slots a, ring_stays t old new fits.slots a)
