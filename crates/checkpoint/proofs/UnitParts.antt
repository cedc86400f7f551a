-- The parts of a master unit, and that they are the unit.
use Rattle.checkpoint.proofs.Names.{◌≡◌, ℕ, zero, suc, ◌+◌, ◌-◌, ◌*◌, ◌<◌, ◌≤◌, List, [], ◌∷◌, ◌++◌, length, get_or, take, drop, replicate, set, refl, ap, sym, subst, ◌∙◌, arith, length-append, zero-add, take-add, get_or-drop, take_at, drop_at, drop-drop, take-append-drop, length-drop, take-set, drop-set, length-replicate, drop-replicate, from_be_bytes-to_be_bytes_8, w64, to_be_bytes, AllByRecursion, Writes, ArePairs, spelling_of_all, Master}
use Rattle.checkpoint.specs.Units.{spelling, unit, IsUnit, number_at, pairs_in, master_in}
use Rattle.checkpoint.proofs.Texts.{IsBytes}
use Rattle.checkpoint.proofs.PairLists.{length_all, number_spelled, one_list, pairs_read}

-- what stands in each field
pub record HasParts (octets : List ℕ) (m : Master) : Type 0 where
  pub redo : m.redo ≡ number_at octets 0
  pub kept : m.kept ≡ number_at octets 8
  pub commits : m.commits ≡ number_at octets 16
  pub count : get_or octets 24 0 ≡ length m.active
  pub pairs : ArePairs (drop 25 octets) m.active
  pub rest : AllByRecursion (λ (octet : ℕ). octet ≡ 0) (drop (25 + 16 * length m.active) octets)

pub length-spelling : (m : Master) → length (spelling m) ≡ 25 + 16 * length m.active
unfolding spelling
length-spelling m = omega (arith, length_all m.active)

zeros_of : (octets : List ℕ) → AllByRecursion (λ (octet : ℕ). octet ≡ 0) octets → octets ≡ replicate (length octets) 0
zeros_of [] h = refl
zeros_of (x ∷ octets) h = ap (λ y. y ∷ octets) h.0 ∙ ap (λ (xs : List ℕ). 0 ∷ xs) (zeros_of octets h.1)

all_zero : (n : ℕ) → AllByRecursion (λ (octet : ℕ). octet ≡ 0) (replicate n 0)
all_zero zero = tt
all_zero (suc n) = (refl, all_zero n)

-- behind the count
behind : (m : Master) → List ℕ
behind m = replicate (503 - length (spelling m)) 0

pairs_behind : (m : Master) → drop 25 (unit m) ≡ spelling_of_all m.active ++ behind m
unfolding spelling unit behind
pairs_behind m = refl

pub parts_of : (octets : List ℕ) (m : Master) → IsUnit octets m → HasParts octets m
unfolding spelling unit behind
parts_of octets m is =
    let e = is.spelled in
    let long : length (spelling_of_all m.active) ≡ 16 * length m.active = length_all m.active in
    record {
      redo = sym (ap (λ (o : List ℕ). number_at o 0) e ∙ from_be_bytes-to_be_bytes_8 m.redo is.redo);
      kept = sym (ap (λ (o : List ℕ). number_at o 8) e ∙ from_be_bytes-to_be_bytes_8 m.kept is.kept);
      commits = sym (ap (λ (o : List ℕ). number_at o 16) e ∙ from_be_bytes-to_be_bytes_8 m.commits is.commits);
      count = ap (λ (o : List ℕ). get_or o 24 0) e;
      pairs = record { text = ap (λ (o : List ℕ). take (16 * length m.active) (drop 25 o)) e ∙ ap (take (16 * length m.active)) (pairs_behind m) ∙ take_at (spelling_of_all m.active) (behind m) _ long; fit = is.fit };
      rest = subst (AllByRecursion (λ (octet : ℕ). octet ≡ 0))
          (sym (ap (drop (25 + 16 * length m.active)) e ∙ sym (drop-drop (16 * length m.active) 25 (unit m)) ∙ ap (drop (16 * length m.active)) (pairs_behind m) ∙ drop_at (spelling_of_all m.active) (behind m) _ long))
          (all_zero (503 - length (spelling m)));
    }

one_octet : (octets : List ℕ) (d : ℕ) → 1 ≤ length octets → take 1 octets ≡ get_or octets 0 d ∷ []
one_octet [] d long = absurd (omega (arith, long))
one_octet (x ∷ octets) d long = refl

five_parts : (octets : List ℕ) (k : ℕ) → octets ≡ take 8 octets ++ take 8 (drop 8 octets) ++ take 8 (drop 16 octets) ++ take 1 (drop 24 octets) ++ take k (drop 25 octets) ++ drop (25 + k) octets
five_parts octets k =
    sym (take-append-drop (25 + k) octets)
    ∙ ap (λ (t : List ℕ). t ++ drop (25 + k) octets) (take-add 25 k octets
    ∙ ap (λ (t : List ℕ). t ++ take k (drop 25 octets)) (take-add 24 1 octets
    ∙ ap (λ (t : List ℕ). t ++ take 1 (drop 24 octets)) (take-add 16 8 octets
    ∙ ap (λ (t : List ℕ). t ++ take 8 (drop 16 octets)) (take-add 8 8 octets))))

pub unit_of_parts : (octets : List ℕ) (m : Master) → IsBytes octets → length octets ≡ 503 → length m.active ≤ 8 → HasParts octets m → octets ≡ unit m
unfolding spelling unit
unit_of_parts octets m bytes size few parts =
    let k = 16 * length m.active in
    let one : take 8 octets ≡ to_be_bytes w64 m.redo = sym (number_spelled octets 0 m.redo bytes (omega (arith, size)) parts.redo) in
    let two : take 8 (drop 8 octets) ≡ to_be_bytes w64 m.kept = sym (number_spelled octets 8 m.kept bytes (omega (arith, size)) parts.kept) in
    let three : take 8 (drop 16 octets) ≡ to_be_bytes w64 m.commits = sym (number_spelled octets 16 m.commits bytes (omega (arith, size)) parts.commits) in
    let four : take 1 (drop 24 octets) ≡ length m.active ∷ [] = one_octet (drop 24 octets) 0 (omega (arith, length-drop 24 octets, size)) ∙ ap (λ n. n ∷ []) (first_of octets ∙ parts.count) in
    let rest : drop (25 + k) octets ≡ replicate (503 - length (spelling m)) 0 =
    zeros_of (drop (25 + k) octets) parts.rest ∙ ap (λ n. replicate n 0) (omega (arith, length-drop (25 + k) octets, size, length-spelling m)) in
    five_parts octets k
    ∙ ap (λ (t : List ℕ). t ++ take 8 (drop 8 octets) ++ take 8 (drop 16 octets) ++ take 1 (drop 24 octets) ++ take k (drop 25 octets) ++ drop (25 + k) octets) one
    ∙ ap (λ (t : List ℕ). to_be_bytes w64 m.redo ++ t ++ take 8 (drop 16 octets) ++ take 1 (drop 24 octets) ++ take k (drop 25 octets) ++ drop (25 + k) octets) two
    ∙ ap (λ (t : List ℕ). to_be_bytes w64 m.redo ++ to_be_bytes w64 m.kept ++ t ++ take 1 (drop 24 octets) ++ take k (drop 25 octets) ++ drop (25 + k) octets) three
    ∙ ap (λ (t : List ℕ). to_be_bytes w64 m.redo ++ to_be_bytes w64 m.kept ++ to_be_bytes w64 m.commits ++ t ++ take k (drop 25 octets) ++ drop (25 + k) octets) four
    ∙ ap (λ (t : List ℕ). to_be_bytes w64 m.redo ++ to_be_bytes w64 m.kept ++ to_be_bytes w64 m.commits ++ length m.active ∷ [] ++ t ++ drop (25 + k) octets) parts.pairs.text
    ∙ ap (λ (t : List ℕ). spelling m ++ t) rest
  where
    first_of : (octets : List ℕ) → get_or (drop 24 octets) 0 0 ≡ get_or octets 24 0
    first_of octets = rw get_or-drop refl

pub one_unit : (octets : List ℕ) (a b : Master) → IsUnit octets a → IsUnit octets b → a ≡ b
one_unit octets a b first second =
    let p = parts_of octets a first in
    let q = parts_of octets b second in
    let active : a.active ≡ b.active = one_list (drop 25 octets) a.active b.active p.pairs q.pairs (sym p.count ∙ q.count) in
    let redo : a.redo ≡ b.redo = p.redo ∙ sym q.redo in
    let kept : a.kept ≡ b.kept = p.kept ∙ sym q.kept in
    let commits : a.commits ≡ b.commits = p.commits ∙ sym q.commits in
    λ i. record { redo = redo i; kept = kept i; commits = commits i; active = active i }

pub unit_read : (octets : List ℕ) (m : Master) → IsUnit octets m → master_in octets ≡ m
unfolding master_in
unit_read octets m is =
    let p = parts_of octets m is in
    let active : pairs_in (get_or octets 24 0) (drop 25 octets) ≡ m.active = ap (λ n. pairs_in n (drop 25 octets)) p.count ∙ pairs_read (drop 25 octets) m.active p.pairs in
    λ i. record { redo = sym p.redo i; kept = sym p.kept i; commits = sym p.commits i; active = active i }

-- an octet that is set is written there
pub octet_written : (octets : List ℕ) (at x : ℕ) → at < length octets → Writes octets (set octets at x) at (x ∷ [])
octet_written octets at x less = record {
  inside = omega (arith, less);
  written = sym (take-append-drop at (set octets at x)) ∙ ap (λ (t : List ℕ). t ++ drop at (set octets at x)) (take-set octets at x) ∙ ap (λ (t : List ℕ). take at octets ++ t) (drop-set octets at x less);
}

-- a spelling that is written over zeros is the unit
pub written_unit : (m : Master) (new : List ℕ) → Writes (replicate 503 0) new 0 (spelling m) → new ≡ unit m
unfolding unit
written_unit m new writes = writes.written ∙ ap (λ n. spelling m ++ drop n (replicate 503 0)) (zero-add (length (spelling m))) ∙ ap (λ (t : List ℕ). spelling m ++ t) (drop-replicate (length (spelling m)) 503 0)

pub length-unit : (m : Master) → length m.active ≤ 8 → length (unit m) ≡ 503
unfolding unit
length-unit m few = grind (arith, length-append, length-replicate, length-spelling)
