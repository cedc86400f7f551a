-- The newest unit of the master ring.
use Rattle.checkpoint.proofs.Names.{◌≡◌, ℕ, zero, suc, ◌+◌, ◌-◌, ◌*◌, ◌%◌, ◌<◌, ◌≤◌, List, [], ◌∷◌, ◌++◌, length, get_or, take, drop, Option, Some, None, refl, ap, sym, subst, ◌∙◌, arith, length-append, take_all, take-take, length-take, newest_of, IsOf, HasMaster, KeepsMaster, Master, master_shape, units_on, region, units_in, Matches, Finds, IsReady, IsRing, Units, units_from, units_of, unit_at, last_of, appended, hi_of, Ring, Shape, IsUnchanged, State, Image, IsSettled, Log}
use Rattle.std.specs.Option.{option_or}
use Rattle.sealed_ring.proofs.Units.{live_count}
use Rattle.checkpoint.specs.Units.{IsUnit}
use Rattle.checkpoint.proofs.UnitParts.{one_unit}

one_is : (o : Option (List ℕ)) (a b : Master) → IsOf o a → IsOf o b → a ≡ b
one_is None a b first second = first ∙ sym second
one_is (Some content) a b first second = one_unit content a b first second

pub one_newest : (image : Image) (a b : Master) → HasMaster image a → HasMaster image b → a ≡ b
one_newest image a b first second = one_is (newest_of (units_on master_shape image).live) a b first second

-- the last of a list that isn't empty
pub newest_at : (xs : List (List ℕ)) (k : ℕ) → length xs ≡ k + 1 → newest_of xs ≡ Some (get_or xs k [])
newest_at (x ∷ []) zero size = refl
newest_at (x ∷ y ∷ xs) (suc k) size = ap (λ (o : Option (List ℕ)). option_or o (Some x)) (newest_at (y ∷ xs) k (omega (arith, size)))
newest_at _ _ size = absurd (omega (arith, size))

newest_more : (xs : List (List ℕ)) (b : List ℕ) → newest_of (xs ++ b ∷ []) ≡ Some b
newest_more [] b = refl
newest_more (x ∷ xs) b = ap (λ (o : Option (List ℕ)). option_or o (Some x)) (newest_more xs b)

newest_drop : (k : ℕ) (xs : List (List ℕ)) (b : List ℕ) → k ≤ length xs → newest_of (drop k (xs ++ b ∷ [])) ≡ Some b
newest_drop zero xs b less = newest_more xs b
newest_drop (suc k) [] b less = absurd (omega (arith, less))
newest_drop (suc k) (x ∷ xs) b less = newest_drop k xs b (omega (arith, less))

newest_last : (xs : List (List ℕ)) (b : List ℕ) → newest_of (last_of 2 (xs ++ b ∷ [])) ≡ Some b
newest_last xs b = newest_drop (length (xs ++ b ∷ []) - 2) xs b (omega (arith, length-append xs (b ∷ [])))

-- a unit that was appended is the newest
pub appended_is : (image : Image) (units : Units) (content : List ℕ) (m : Master) → IsUnit content m → units_on master_shape image ≡ appended master_shape units content → HasMaster image m
appended_is image units content m is stands =
    subst (λ (o : Option (List ℕ)). IsOf o m) (sym (ap (λ (u : Units). newest_of u.live) stands ∙ newest_last units.live content)) is

-- images with the same units have the same master
pub same_units : (old new : Image) → units_on master_shape new ≡ units_on master_shape old → KeepsMaster old new
same_units old new same m has = subst (λ (u : Units). IsOf (newest_of u.live) m) (sym same) has

short : (s : Shape) (c : List ℕ) (first n k : ℕ) → length (get_or (units_from s c first n) k []) ≤ s.room
short s c first zero k = omega arith
short s c first (suc n) zero = omega (arith, length-take s.room (drop (s.base + first % s.slots * s.stride + 9) c))
short s c first (suc n) (suc k) = short s c (first + 1) n k

-- the newest unit as it was read
pub newest_read : (image : Image) (hi : ℕ) (read : List ℕ) → hi ≡ hi_of master_shape image.log → 0 < hi → read ≡ take 503 (unit_at master_shape (units_of master_shape image.log) (hi - 1)) →
    newest_of (units_on master_shape image).live ≡ Some read
newest_read image hi read is some reads =
    let units = units_of master_shape image.log in
    let k = hi - 1 - (units.hi - 2) in
    let size : length units.live ≡ k + 1 = omega (arith, live_count master_shape image.log, is, some) in
    newest_at units.live k size ∙ ap Some (sym (reads ∙ take_all 503 (get_or units.live k []) (short master_shape image.log _ _ k)))

-- so it is of a ring
pub ring_newest : (ring : Ring) (site : State) (hi : ℕ) (into : List ℕ) → ring.shape ≡ master_shape → Matches ring site → hi ≡ ring.hi → 0 < hi →
    drop 8 into ≡ take 503 (unit_at ring.shape (units_in ring.shape site) (hi - 1)) → newest_of (units_on master_shape site.image).live ≡ Some (take 503 (drop 8 into))
ring_newest ring site hi into shape fits same some reads =
    newest_read site.image hi (take 503 (drop 8 into)) (same ∙ fits ∙ ap (λ (s : Shape). hi_of s (region s site)) shape) some
    (ap (take 503) (reads ∙ ap (λ (s : Shape). take 503 (unit_at s (units_in s site) (hi - 1))) shape) ∙ take-take 503 503 (unit_at master_shape (units_in master_shape site) (hi - 1)) (omega arith))

-- a ring that was found, and nothing changed since
pub finds_still : (ring : Ring) (old mid new : State) → ring.shape ≡ master_shape → IsUnchanged old mid → IsUnchanged mid new → IsRing master_shape old.image.log → Matches ring mid → Finds ring new
finds_still ring old mid new shape first second form fits = grind arith

pub ready_still : (ring : Ring) (old mid new : State) → ring.shape ≡ master_shape → IsUnchanged old mid → IsUnchanged mid new → IsSettled Log old → IsRing master_shape old.image.log → Matches ring mid → IsReady ring new
ready_still ring old mid new shape first second settled form fits = grind (arith, finds_still)
