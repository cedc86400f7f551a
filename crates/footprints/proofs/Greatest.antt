-- The greatest of numbers.
use Rattle.std.proofs.Common.{◌≡◌, ◌⊎◌, ⊎_elim, inl, inr, ℕ, zero, suc, ◌≤◌, max, List, [], ◌∷◌, ◌++◌, Some, unwrap_or, fold, arith, refl, sym, ap, ◌∙◌}
use Rattle.std.specs.List.{reduce, Contains, AllByRecursion}
use Rattle.std.proofs.Math.Nat.{le-max_left, le-max_right, max-le, max-eq_left, max-eq_right, max-zero}
use Rattle.std.proofs.lemmas.Bool.{cases_lt}
use Rattle.std.proofs.lemmas.List.Sums.{fold-append}
use Rattle.std.proofs.lemmas.List.Elements.{All-from_recursion}
use Rattle.footprints.specs.Longest.{IsGreatest}

is_one : (a b : ℕ) → (max a b ≡ a) ⊎ (max a b ≡ b)
is_one a b = ⊎_elim (λ less. inr (max-eq_right (omega (arith, less)))) (λ least. inl (max-eq_left least)) (cases_lt a b)

found : (x : ℕ) (ys : List ℕ) → Contains (x ∷ ys) (fold max x ys)
found x [] = (0, omega arith, refl)
found x (y ∷ ys) = by (found (max x y) ys)
  where
    by : Contains (max x y ∷ ys) (fold max (max x y) ys) → Contains (x ∷ y ∷ ys) (fold max (max x y) ys)
    by (zero, less, is) = ⊎_elim (λ (one : max x y ≡ x). (0, omega arith, sym one ∙ is)) (λ (one : max x y ≡ y). (1, omega arith, sym one ∙ is)) (is_one x y)
    by (suc k, less, is) = (suc (suc k), omega (arith, less), is)

within : (x : ℕ) (ys : List ℕ) → (x ≤ fold max x ys) × AllByRecursion (λ n. n ≤ fold max x ys) ys
within x [] = (omega arith, tt)
within x (y ∷ ys) =
    let rest = within (max x y) ys in
    let left = le-max_left x y in
    let right = le-max_right x y in
    (omega (arith, rest.0, left), (omega (arith, rest.0, right), rest.1))

pub greatest : (numbers : List ℕ) → IsGreatest numbers (reduce max numbers)
greatest [] = refl
greatest (x ∷ ys) = (found x ys, All-from_recursion (λ n. n ≤ fold max x ys) (x ∷ ys) (within x ys))

-- Two more numbers.
pub two_more : (numbers : List ℕ) (a b : ℕ) → reduce max (numbers ++ a ∷ b ∷ []) ≡ Some (max (max a b) (unwrap_or (reduce max numbers) 0))
two_more [] a b = ap Some (sym (max-zero (max a b)))
two_more (x ∷ ys) a b = ap Some (fold-append max x ys (a ∷ b ∷ []) ∙ turned (fold max x ys))
  where
    turned : (m : ℕ) → max (max m a) b ≡ max (max a b) m
    turned m =
        let all = le-max_left (max a b) m in
        let last = le-max_right (max a b) m in
        let one = le-max_left a b in
        let two = le-max_right a b in
        let old = le-max_left m a in
        let new = le-max_right m a in
        let both = le-max_left (max m a) b in
        let least : max (max m a) b ≤ max (max a b) m = max-le (max-le last (omega (arith, all, one))) (omega (arith, all, two)) in
        let most : max (max a b) m ≤ max (max m a) b = max-le (max-le (omega (arith, both, new)) (le-max_right (max m a) b)) (omega (arith, both, old)) in
        omega (arith, least, most)
