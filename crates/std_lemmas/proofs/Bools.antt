-- Booleans: what a known side leaves, and sides in another order.
use Rattle.std.proofs.Common.{◌≡◌, ℕ, ◌==◌, Bool, true, false, ◌&&◌, ◌||◌, refl, sym}
use Rattle.std.proofs.lemmas.Bool.{eqb-true, eqb-false, eq-eqb, ne_eqb}

pub and_true : (b : Bool) → (b && true) ≡ b
and_true true = refl
and_true false = refl

pub and_false : (b : Bool) → (b && false) ≡ false
and_false true = refl
and_false false = refl

pub or_true : (b : Bool) → (b || true) ≡ true
or_true true = refl
or_true false = refl

pub or_false : (b : Bool) → (b || false) ≡ b
or_false true = refl
or_false false = refl

-- a side that is false
pub or_without : (a b : Bool) → b ≡ false → (a || b) ≡ a
or_without true b none = refl
or_without false b none = none

pub or_without_last : (a b : Bool) → b ≡ false → (a || (b || false)) ≡ a
or_without_last true b none = refl
or_without_last false true none = none
or_without_last false false none = refl

pub or_assoc : (a b c : Bool) → ((a || b) || c) ≡ (a || (b || c))
or_assoc true b c = refl
or_assoc false b c = refl

-- each true where the other is
pub same_bools : (a b : Bool) → (a ≡ true → b ≡ true) → (b ≡ true → a ≡ true) → a ≡ b
same_bools true b to from = sym (to refl)
same_bools false true to from = from refl
same_bools false false to from = refl

-- whether two numbers are equal, seen from either side
pub eq_turned : (a b : ℕ) → (a == b) ≡ (b == a)
eq_turned a b = by (b == a) refl
  where
    by : (t : Bool) → (b == a) ≡ t → (a == b) ≡ t
    by true is = eq-eqb a b (sym (eqb-true b a is))
    by false is = ne_eqb a b (λ same. eqb-false b a is (sym same))
