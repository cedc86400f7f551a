-- What each device call of an append may leave.
use Rattle.sealed_ring.proofs.Names.{◌≡◌, ℕ, ◌+◌, ◌%◌, ◌^◌, ◌≤◌, ◌<◌, List, [], ◌∷◌, ◌++◌, length, get_or, take, drop, refl, sym, ◌∙◌, ap, subst, arith, length-append, take_at, drop_at, append_assoc, drop-drop, length-take-le, mod_below, from_be_bytes-to_be_bytes_8, from_be_bytes, to_be_bytes, w64, region, region_left, IsAtRest, LeavesKept, LeavesEither, FitsIn, place, IsBeside, IsStaged, Stages, Opens, Shape, content_of-same, loose_of-same, length-put, put_here, put, range, within_write, Lies, Leaves, State, Range, Snapshot, MayStand, MayLeave, content_of, loose_of, Dev}
use Rattle.sealed_ring.specs.Ring.{number}
use Rattle.sealed_ring.proofs.Alters.{Alters, next_alters, either, number_same, content_same}
use Rattle.sealed_ring.proofs.Places.{alters_by, alters_gate, one_loose, two_loose, put_beside, beside_one, body_fits}

-- what stands in the device within a write
pub within_stands : (dev : Dev) (at n : ℕ) (s : State) (snapshot : Snapshot) (rs : List Range) (c : List ℕ) → loose_of dev s.loose ≡ rs → content_of dev s.image ≡ c → MayLeave (within_write dev at n s) snapshot
    → MayStand (range at n ∷ rs) c (content_of dev snapshot.image)
within_stands dev at n s snapshot rs c r is m = grind arith

put_drop : (c : List ℕ) (at : ℕ) (bytes : List ℕ) → at + length bytes ≤ length c → drop at (put c at bytes) ≡ bytes ++ drop (at + length bytes) c
put_drop c at bytes fits =
    drop_at (take at c) (bytes ++ drop (at + length bytes) c) at (length-take-le at c (omega arith))

-- what was written stands there
pub put_part : (c : List ℕ) (at : ℕ) (front back : List ℕ) (n : ℕ) → length front ≡ n → at + length (front ++ back) ≤ length c → take n (drop at (put c at (front ++ back))) ≡ front
put_part c at front back n is fits =
    ap (take n) (put_drop c at (front ++ back) fits ∙ append_assoc front back (drop (at + length (front ++ back)) c)) ∙ take_at front (back ++ drop (at + length (front ++ back)) c) n is

pub put_rest : (c : List ℕ) (at k : ℕ) (front back : List ℕ) (n : ℕ) → k ≡ at + length front → length back ≡ n → at + length (front ++ back) ≤ length c → take n (drop k (put c at (front ++ back))) ≡ back
put_rest c at k front back n start is fits =
    let rest = drop (at + length (front ++ back)) c in
    ap (λ (x : ℕ). take n (drop x (put c at (front ++ back)))) start
    ∙ ap (take n) (sym (drop-drop (length front) at (put c at (front ++ back))) ∙ ap (drop (length front)) (put_drop c at (front ++ back) fits ∙ append_assoc front back rest) ∙ drop_at front (back ++ rest) (length front) refl)
    ∙ take_at back rest n is

-- both writes of the staging done
pub staged_by : (s : Shape) (hi : ℕ) (c bytes : List ℕ) → FitsIn s (length c) → hi < 2 ^ 40 → length bytes ≡ s.room
    → Stages s hi bytes c (put (put c (place s (hi % s.slots) + 1) (to_be_bytes w64 hi ++ bytes)) (place s ((hi + 1) % s.slots)) (0 ∷ []))
unfolding number
staged_by s hi c bytes fits small is =
    let slots : 0 < s.slots = omega (arith, fits.slots) in
    let j = hi % s.slots in
    let g = (hi + 1) % s.slots in
    let j_in : hi % s.slots < s.slots = mod_below hi s.slots slots in
    let g_in : (hi + 1) % s.slots < s.slots = mod_below (hi + 1) s.slots slots in
    let num = to_be_bytes w64 hi in
    let eight : length (to_be_bytes w64 hi) ≡ 8 = refl in
    let long : length (num ++ bytes) ≡ 8 + s.room = length-append num bytes ∙ ap (λ (x : ℕ). 8 + x) is in
    let c1 = put c (place s j + 1) (num ++ bytes) in
    let c2 = put c1 (place s g) (0 ∷ []) in
    let fit1 : place s j + 1 + length (num ++ bytes) ≤ length c = omega (arith, long, body_fits s (length c) fits j j_in) in
    let size1 : length c1 ≡ length c = length-put c (place s j + 1) (num ++ bytes) fit1 in
    let fit2 : place s g + 1 ≤ length c1 = omega (arith, size1, body_fits s (length c) fits g g_in) in
    let size2 : length c2 ≡ length c1 = length-put c1 (place s g) (0 ∷ []) fit2 in
    let gate_only : Alters s s.slots g c1 c2 = alters_gate s (length c) fits c1 c2 g g_in size2 (λ p ne. put_beside c1 (place s g) (0 ∷ []) p fit2 (beside_one (place s g) p ne)) in
    let part = gate_only.parts j j_in (omega arith) in
    let e : place s g ≡ place s g + 0 = omega arith in record {
      size = size2 ∙ size1;
      number = number_same s j c1 c2 size2 part ∙ ap (from_be_bytes w64) (put_part c (place s j + 1) num bytes 8 eight fit1) ∙ from_be_bytes-to_be_bytes_8 hi (omega arith);
      content = content_same s j c1 c2 size2 part ∙ put_rest c (place s j + 1) (place s j + 9) num bytes s.room (omega arith) is fit1;
      next = ap (λ (x : ℕ). get_or c2 x 0) e ∙ put_here c1 (place s g) (0 ∷ []) 0 fit2 (omega arith);
      others = λ p beside ne.
          put_beside c1 (place s g) (0 ∷ []) p fit2 (beside_one (place s g) p ne)
          ∙ put_beside c (place s j + 1) (num ++ bytes) p fit1 (subst (λ (x : ℕ). IsBeside (place s j + 1) x p) (sym long) beside);
    }

module _ (s : Shape) (hi : ℕ) (old : State) (fits : FitsIn s (length (region s old))) (rest : IsAtRest s hi old) where
  slot : (n : ℕ) → n % s.slots < s.slots
  slot n = mod_below n s.slots (omega (arith, fits.slots))

  next : ℕ
  next = place s ((hi + 1) % s.slots)

  -- the first write
  pub first_leaves : (n : ℕ) → n ≡ 8 + s.room → Leaves (LeavesKept s hi (region s old)) (within_write s.dev (place s (hi % s.slots) + 1) n old)
  first_leaves n is snapshot m =
      let m' : MayLeave (within_write s.dev (place s (hi % s.slots) + 1) (8 + s.room) old) snapshot = subst (λ (x : ℕ). MayLeave (within_write s.dev (place s (hi % s.slots) + 1) x old) snapshot) is m in
      let stands = within_stands s.dev (place s (hi % s.slots) + 1) (8 + s.room) old snapshot [] (region s old) rest.settled refl m' in
      next_alters s hi (region s old) (region_left s snapshot) fits.slots rest.form
      (alters_by s (length (region s old)) fits (region s old) (region_left s snapshot) (hi % s.slots) ((hi + 1) % s.slots) (slot hi) (slot (hi + 1)) stands.size
      (λ p beside ne. one_loose (place s (hi % s.slots) + 1) (8 + s.room) (region s old) (region_left s snapshot) stands p beside))

  -- the second one, after the first
  pub second_leaves : (mid : State) (buffer : List ℕ) → length buffer ≡ 8 + s.room → Lies s.dev (place s (hi % s.slots) + 1) buffer old mid → place s (hi % s.slots) + 1 + (8 + s.room) ≤ length (region s old)
      → Leaves (LeavesKept s hi (region s old)) (within_write s.dev (place s ((hi + 1) % s.slots)) 1 mid)
  second_leaves mid buffer long lies room snapshot m =
      let ranges : loose_of s.dev mid.loose ≡ range (place s (hi % s.slots) + 1) (length buffer) ∷ [] =
      ap (loose_of s.dev) lies.loose ∙ loose_of-same s.dev (range (place s (hi % s.slots) + 1) (length buffer) ∷ loose_of s.dev old.loose) old.loose
      ∙ ap (λ (x : List Range). range (place s (hi % s.slots) + 1) (length buffer) ∷ x) rest.settled in
      let stands = within_stands s.dev (place s ((hi + 1) % s.slots)) 1 mid snapshot (range (place s (hi % s.slots) + 1) (length buffer) ∷ []) (put (region s old) (place s (hi % s.slots) + 1) buffer) ranges
      (ap (content_of s.dev) lies.image ∙ content_of-same s.dev (put (region s old) (place s (hi % s.slots) + 1) buffer) old.image) m in
      let fit : place s (hi % s.slots) + 1 + length buffer ≤ length (region s old) = omega (arith, long, room) in
      next_alters s hi (region s old) (region_left s snapshot) fits.slots rest.form
      (alters_by s (length (region s old)) fits (region s old) (region_left s snapshot) (hi % s.slots) ((hi + 1) % s.slots) (slot hi) (slot (hi + 1))
      (stands.size ∙ length-put (region s old) (place s (hi % s.slots) + 1) buffer fit)
      (λ p beside ne. two_loose (place s ((hi + 1) % s.slots)) (place s (hi % s.slots) + 1) buffer (region s old) (region_left s snapshot) fit stands p (subst (λ (x : ℕ). IsBeside (place s (hi % s.slots) + 1) x p) (sym long) beside) ne))

-- the gate's write
pub open_leaves : (s : Shape) (hi : ℕ) (old : State) → FitsIn s (length (region s old)) → hi < 2 ^ 40 → loose_of s.dev old.loose ≡ [] → IsStaged s hi (region s old)
    → Leaves (LeavesEither s hi (region s old)) (within_write s.dev (place s (hi % s.slots)) 1 old)
open_leaves s hi old fits small settled staged snapshot m =
    let stands = within_stands s.dev (place s (hi % s.slots)) 1 old snapshot [] (region s old) settled refl m in
    either s hi (region s old) (region_left s snapshot) fits.slots staged
    (alters_gate s (length (region s old)) fits (region s old) (region_left s snapshot) (hi % s.slots) (mod_below hi s.slots (omega (arith, fits.slots))) stands.size
    (λ p ne. one_loose (place s (hi % s.slots)) 1 (region s old) (region_left s snapshot) stands p (beside_one (place s (hi % s.slots)) p ne)))
    small

pub opened_by : (s : Shape) (hi : ℕ) (c : List ℕ) → FitsIn s (length c) → Opens s hi c (put c (place s (hi % s.slots)) (165 ∷ []))
opened_by s hi c fits =
    let j_in : hi % s.slots < s.slots = mod_below hi s.slots (omega (arith, fits.slots)) in
    let fit : place s (hi % s.slots) + 1 ≤ length c = omega (arith, body_fits s (length c) fits (hi % s.slots) j_in) in
    let e : place s (hi % s.slots) ≡ place s (hi % s.slots) + 0 = omega arith in record {
      size = length-put c (place s (hi % s.slots)) (165 ∷ []) fit;
      opened = ap (λ (x : ℕ). get_or (put c (place s (hi % s.slots)) (165 ∷ [])) x 0) e ∙ put_here c (place s (hi % s.slots)) (165 ∷ []) 0 fit (omega arith);
      others = λ p ne. put_beside c (place s (hi % s.slots)) (165 ∷ []) p fit (beside_one (place s (hi % s.slots)) p ne);
    }
