-- The numbers of a line: what is read as one is its decimal text, and the decimal text of each small number is read.
use Rattle.std.proofs.Common.{◌≡◌, ◌≢◌, ◌⊎◌, ℕ, ◌<◌, ◌^◌, Bool, true, false, List, [], ◌∷◌, length, get_or, Some, None, refl, sym, ap, ◌∙◌, arith, inl, inr}
use Rattle.std.specs.Prelude.{◌==◌, ◌&&◌, nat_lt, if◌then◌else◌, decimal}
use Rattle.std.specs.Str.{all_ascii_digits}
use Rattle.std.specs.Str.Parse.{digits_value}
use Rattle.std.proofs.lemmas.Bool.{and_parts, and_from, ltb-true, lt-ltb, eqb-false, ne_eqb, cases_eq}
use Rattle.std.proofs.lemmas.Str.Parse.{IsNumeralModel, numerals_by_value, tells_all_ascii_digits}
use Rattle.std.proofs.lemmas.Fmt.{digits_decimal, digits_value-decimal, decimal_nonempty, first_decimal, decimal_digit, decimal-digits_value}
use Rattle.std.proofs.lemmas.Option.{same_Some}
use Rattle.shell_text.specs.Grammar.{IsNumber}
use Rattle.shell_text.specs.Reading.{small_number, number_of}

-- which way a choice went
pub chosen : {X : Type 0} (b : Bool) (x y z : X) → (if b then x else y) ≡ z → ((b ≡ true) × (x ≡ z)) ⊎ ((b ≡ false) × (y ≡ z))
chosen true x y z e = inl (refl, e)
chosen false x y z e = inr (refl, e)

pub own_digits : IsNumeralModel (λ ds. all_ascii_digits ds ≡ true) (digits_value 10)
own_digits = numerals_by_value _ tells_all_ascii_digits

-- what small_number takes
record IsSmall (text : List ℕ) (n : ℕ) : Type 0 where
  pub digits : all_ascii_digits text ≡ true
  pub small : digits_value 10 text < 1000000000
  pub value : digits_value 10 text ≡ n

small_number-some : (text : List ℕ) (n : ℕ) → small_number text ≡ Some n → IsSmall text n
small_number-some text n e =
    elim (chosen (all_ascii_digits text && nat_lt (digits_value 10 text) 1000000000) (Some (digits_value 10 text)) None (Some n) e) [
      | inl taken ↦
          let parts = and_parts (all_ascii_digits text) (nat_lt (digits_value 10 text) 1000000000) taken.0 in
          record { digits = parts.0; small = ltb-true (digits_value 10 text) 1000000000 parts.1; value = same_Some _ _ taken.1 }
      | inr left ↦ cc left.1
    ]

small_number-is : (text : List ℕ) (n : ℕ) → IsSmall text n → small_number text ≡ Some n
small_number-is text n s =
    ap (λ (b : Bool). if b then Some (digits_value 10 text) else None)
    (and_from (all_ascii_digits text) (nat_lt (digits_value 10 text) 1000000000) s.digits (lt-ltb (digits_value 10 text) 1000000000 s.small))
    ∙ ap Some s.value

-- digits with no leading zero are the decimal text of their value
written : (text : List ℕ) (n : ℕ) → IsSmall text n → 0 < length text → (get_or text 0 0 ≡ 48 → length text ≡ 1) → IsNumber n × (text ≡ decimal n)
written text n s some plain =
    let small = s.small in
    let value = s.value in
    (omega arith, sym (decimal-digits_value own_digits text s.digits some plain (omega arith)) ∙ ap decimal value)

pub number_of-some : (text : List ℕ) (n : ℕ) → number_of text ≡ Some n → IsNumber n × (text ≡ decimal n)
number_of-some [] n e = cc e
number_of-some (x ∷ []) n e = written (x ∷ []) n (small_number-some (x ∷ []) n e) (omega arith) (λ zero. refl)
number_of-some (x ∷ y ∷ ds) n e =
    elim (chosen (x == 48) None (small_number (x ∷ y ∷ ds)) (Some n) e) [
      | inl zero_first ↦ cc zero_first.1
      | inr other ↦ written (x ∷ y ∷ ds) n (small_number-some (x ∷ y ∷ ds) n other.1) (omega arith) (λ zero_first. absurd (eqb-false x 48 other.0 zero_first))
    ]

-- a number's digits with no leading zero are read
read_again : (text : List ℕ) (n : ℕ) → IsSmall text n → 0 < length text → (n ≡ 0 → length text ≡ 1) → (0 < n → 48 < get_or text 0 0) → number_of text ≡ Some n
read_again [] n s some zero_text first = absurd (omega (arith, some))
read_again (x ∷ []) n s some zero_text first = small_number-is (x ∷ []) n s
read_again (x ∷ y ∷ ds) n s some zero_text first =
    elim (cases_eq n 0) [
      | inl none ↦ let one = zero_text none in absurd (omega (arith, one))
      | inr more ↦
          let above = first (omega (arith, more)) in
          let other : x ≢ 48 = λ (is : x ≡ 48). omega (arith, above, is) in
          (λ i. if ne_eqb x 48 other i then None else small_number (x ∷ y ∷ ds)) ∙ small_number-is (x ∷ y ∷ ds) n s
    ]

-- the decimal text of 0 is one digit
length-decimal_zero : (n : ℕ) → n ≡ 0 → length (decimal n) ≡ 1
length-decimal_zero n none = ap (λ (m : ℕ). length (decimal m)) none ∙ ap length (decimal_digit 0 (omega arith))

pub number_of-decimal : (n : ℕ) → IsNumber n → number_of (decimal n) ≡ Some n
number_of-decimal n small =
    let fits : n < 2 ^ 64 = omega (arith, small) in
    let value : digits_value 10 (decimal n) ≡ n = digits_value-decimal own_digits n fits in
    read_again (decimal n) n
    (record { digits = digits_decimal own_digits n fits; small = omega (arith, value, small); value = value })
    (decimal_nonempty n fits) (length-decimal_zero n) (λ more. first_decimal n more fits)

pub decimal_digits : (n : ℕ) → IsNumber n → all_ascii_digits (decimal n) ≡ true
decimal_digits n small = digits_decimal own_digits n (omega (arith, small))
