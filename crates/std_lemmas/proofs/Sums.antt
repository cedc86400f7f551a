-- Sums over lists.
use Rattle.std.proofs.Common.{◌≡◌, ℕ, ◌+◌, ◌≤◌, Bool, true, false, cond, List, [], ◌∷◌, map, filter, refl, sym, ap, ◌∙◌, arith}
use Rattle.std.specs.Prelude.{sum_by}
use Rattle.std.specs.List.{AllByRecursion}
use Rattle.std.proofs.lemmas.List.Sums.{sum_by-cons}
use Rattle.std_lemmas.proofs.AllOf.{all_each}

pub sum_both : {X : Type 0} (f g : X → ℕ) (xs : List X) → sum_by (λ x. f x + g x) xs ≡ sum_by f xs + sum_by g xs
sum_both f g [] = refl
sum_both f g (x ∷ xs) = omega (arith, sum_by-cons (λ y. f y + g y) x xs, sum_by-cons f x xs, sum_by-cons g x xs, sum_both f g xs)

pub sum_zero : {X : Type 0} (f : X → ℕ) (xs : List X) → AllByRecursion (λ x. f x ≡ 0) xs → sum_by f xs ≡ 0
sum_zero f [] h = refl
sum_zero f (x ∷ xs) h = let a = h.0 in omega (arith, sum_by-cons f x xs, sum_zero f xs h.1, a)

pub sum_made : {X Y : Type 0} (g : Y → ℕ) (f : X → Y) (test : X → Bool) (xs : List X) → sum_by g (map f (filter test xs)) ≡ sum_by (λ x. cond (test x) (g (f x)) 0) xs
sum_made g f test [] = refl
sum_made {X} {Y} g f test (x ∷ xs) = by_test (test x) (sum_made g f test xs) ∙ sym (sum_by-cons (λ x. cond (test x) (g (f x)) 0) x xs)
  where
    by_test : (b : Bool) → sum_by g (map f (filter test xs)) ≡ sum_by (λ x. cond (test x) (g (f x)) 0) xs → sum_by g (map f (cond b (x ∷ filter test xs) (filter test xs))) ≡ cond b (g (f x)) 0 + sum_by (λ x. cond (test x) (g (f x)) 0) xs
    by_test true e = sum_by-cons g (f x) (map f (filter test xs)) ∙ ap (λ n. g (f x) + n) e
    by_test false e = e ∙ omega arith

pub sum_within : {X : Type 0} (g : X → ℕ) (test : X → Bool) (xs : List X) → ((x : X) → test x ≡ false → g x ≡ 0) → sum_by g (filter test xs) ≡ sum_by g xs
sum_within g test [] h = refl
sum_within g test (x ∷ xs) h = by_test (test x) refl (sum_within g test xs h) ∙ sym (sum_by-cons g x xs)
  where
    by_test : (b : Bool) → test x ≡ b → sum_by g (filter test xs) ≡ sum_by g xs → sum_by g (cond b (x ∷ filter test xs) (filter test xs)) ≡ g x + sum_by g xs
    by_test true t e = sum_by-cons g x (filter test xs) ∙ ap (λ n. g x + n) e
    by_test false t e = e ∙ omega (arith, h x t)

pub sum_pointwise : {X : Type 0} (f g : X → ℕ) → ((x : X) → f x ≡ g x) → (xs : List X) → sum_by f xs ≡ sum_by g xs
sum_pointwise {X} f g h xs = ap (λ (k : X → ℕ). sum_by k xs) (λ i x. h x i)

pub sum_le : {X : Type 0} (f g : X → ℕ) (xs : List X) → AllByRecursion (λ x. f x ≤ g x) xs → sum_by f xs ≤ sum_by g xs
sum_le f g [] all = omega arith
sum_le f g (x ∷ xs) all = let one = all.0 in omega (arith, one, sum_by-cons f x xs, sum_by-cons g x xs, sum_le f g xs all.1)

pub sum_of_zeros : {X : Type 0} (xs : List X) → sum_by (λ (x : X). 0) xs ≡ 0
sum_of_zeros {X} xs = sum_zero (λ (x : X). 0) xs (all_each (λ x. 0 ≡ 0) (λ x. refl) xs)

pub sum_swap : {X Y : Type 0} (f : X → Y → ℕ) (xs : List X) (ys : List Y) → sum_by (λ x. sum_by (f x) ys) xs ≡ sum_by (λ y. sum_by (λ x. f x y) xs) ys
sum_swap f [] ys = sym (sum_of_zeros ys)
sum_swap {X} {Y} f (x ∷ xs) ys =
    let first = sum_by-cons (λ (w : X). sum_by (f w) ys) x xs in
    let each = sum_pointwise (λ (y : Y). sum_by (λ w. f w y) (x ∷ xs)) (λ y. f x y + sum_by (λ w. f w y) xs) (λ y. sum_by-cons (λ w. f w y) x xs) ys in
    let parts = sum_both (f x) (λ (y : Y). sum_by (λ w. f w y) xs) ys in
    omega (arith, first, each, parts, sum_swap f xs ys)
