-- The second chances: each at its place, at most seven, and none of them staged.
use Rattle.std.proofs.lemmas.Grind.{common_steps}
use Rattle.second_chance.proofs.Names.{◌≡◌, ℕ, zero, suc, ◌+◌, ◌≤◌, Bool, true, false, not, ◌&&◌, ◌||◌, cond, List, [], ◌∷◌, length, take, filter, slice_get, arith, refl, ap, and_parts, eq-eqb, length-take, All-from_recursion, length-enumerate_from, enumerate_from, AllByRecursion, Mark, ChancesStand, ChancesFew, ChancesAreNotStaged, Placed, chances_of, is_among, all_both, all_passed, all_take}
use Rattle.second_chance.proofs.Pushes.{chances_stand}

-- whether a frame is wanted
abbrev wanted : Placed → Bool
wanted f = f.1.valid && f.1.referenced

chances_pass : (given : Bool) (front : List Mark) → AllByRecursion (λ f. wanted f ≡ true) (chances_of given front)
chances_pass x0 front = grind (arith, common_steps, all_take, all_passed)

pub chances_stand_in : ChancesStand
chances_stand_in given front = grind (arith, All-from_recursion, all_both, slice_get, and_parts, chances_stand, chances_pass)

pub chances_few : ChancesFew
chances_few x0 front = grind (arith, common_steps, length-take)

-- Of the frames that pass one test no more are taken than pass another one that all taken ones pass.
taken_few : (test other : Placed → Bool) (n : ℕ) (xs : List Placed) → AllByRecursion (λ f. other f ≡ true) (take n (filter test xs)) → length (take n (filter test xs)) ≤ length (filter other xs)
taken_few test other n [] all = let long = length-take n (filter test []) in omega (arith, long)
taken_few test other n (x ∷ xs) all = by (test x) (other x) refl n all (λ m rest. taken_few test other m xs rest)
  where
    more : (b : Bool) (m : ℕ) → m ≤ length (filter other xs) → m ≤ length (cond b (x ∷ filter other xs) (filter other xs))
    more true m le = omega (arith, le)
    more false m le = le

    by : (b c : Bool) → other x ≡ c → (n : ℕ) → AllByRecursion (λ f. other f ≡ true) (take n (cond b (x ∷ filter test xs) (filter test xs)))
        → ((m : ℕ) → AllByRecursion (λ f. other f ≡ true) (take m (filter test xs)) → length (take m (filter test xs)) ≤ length (filter other xs))
        → length (take n (cond b (x ∷ filter test xs) (filter test xs))) ≤ length (cond c (x ∷ filter other xs) (filter other xs))
    by true c is zero all rest = omega arith
    by true true is (suc n) all rest = let le = rest n all.1 in omega (arith, le)
    by true false is (suc n) all rest = absurd (let t = all.0 in cc)
    by false c is n all rest = more c _ (rest n all)

-- each frame of a list is among them
among_more : (x : Placed) (xs ys : List Placed) → AllByRecursion (λ f. is_among xs f.0 ≡ true) ys → AllByRecursion (λ f. is_among (x ∷ xs) f.0 ≡ true) ys
among_more x xs [] all = tt
among_more x xs (y ∷ ys) all = grind (arith, (among_more x xs ys all.1))

own_among : (xs : List Placed) → AllByRecursion (λ f. is_among xs f.0 ≡ true) xs
own_among [] = tt
own_among (x ∷ xs) = (ap (λ b. b || is_among xs x.0) (eq-eqb x.0 x.0 refl), among_more x xs xs (own_among xs))

-- of a list no more pass one test and fail another, and pass the other, than there are
parted : (test other : Placed → Bool) (xs : List Placed) → length (filter (λ f. test f && not (other f)) xs) + length (filter other xs) ≤ length xs
parted test other [] = omega arith
parted test other (x ∷ xs) = grind (arith, (parted test other xs))

among_few : (given : Bool) (front : List Mark) → length (chances_of given front) ≤ length (filter (λ f. is_among (chances_of given front) f.0) (enumerate_from 0 front))
among_few true front = taken_few wanted (λ f. is_among (chances_of true front) f.0) 7 (enumerate_from 0 front) (own_among (chances_of true front))
among_few false front = omega arith

pub chances_are_not_staged : ChancesAreNotStaged
chances_are_not_staged given front =
    let both = parted (λ f. f.1.valid && f.1.dirty) (λ f. is_among (chances_of given front) f.0) (enumerate_from 0 front) in
    let few = among_few given front in
    let all = length-enumerate_from 0 front in
    omega (arith, both, few, all)
