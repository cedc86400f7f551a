-- Numbers in decimal, read from the left.
use Rattle.std.proofs.lemmas.Grind.{common_steps}
use Rattle.std.proofs.Common.{◌≡◌, ℕ, suc, ◌+◌, ◌*◌, ◌≤◌, ◌<◌, ◌^◌, Bool, true, List, [], ◌∷◌, length, get_or, drop, drop-cons, Some, None, ap, ◌∙◌, arith}
use Rattle.std.specs.Prelude.{nat_lt, if◌then◌else◌, decimal}
use Rattle.std.specs.Char.{digit_value}
use Rattle.std.specs.Str.{all_ascii_digits}
use Rattle.std.specs.Str.Parse.{digits_value, digits_value_after}
use Rattle.std.proofs.lemmas.Bool.{and_right, and_from, le-ltb, lt-ltb}
use Rattle.std.proofs.lemmas.Fmt.{digits_decimal, digits_value-decimal}
use Rattle.std.proofs.lemmas.Str.Parse.{IsNumeralModel, numerals_by_value, tells_all_ascii_digits}
use Rattle.log_archive.specs.Numbers.{number_in}

-- the digits behind a number only make it larger
le-digits_value_after : (n : ℕ) (ds : List ℕ) → n ≤ digits_value_after 10 n ds
le-digits_value_after n [] = omega arith
le-digits_value_after n (c ∷ cs) = let more = le-digits_value_after (n * 10 + digit_value c) cs in omega arith

-- digits that write ten million million or more
too_large : (text : List ℕ) → 10000000000000 ≤ digits_value 10 text → number_in text ≡ None
too_large text large = grind (arith, common_steps, and_right, le-ltb)

-- a digit more behind a million million
pub number_in-too_large : (text : List ℕ) (n i : ℕ) → digits_value 10 text ≡ digits_value_after 10 n (drop i text) → i < length text → 1000000000000 ≤ n → number_in text ≡ None
number_in-too_large text n i value more large =
    let whole : digits_value 10 text ≡ digits_value_after 10 n (get_or text i 0 ∷ drop (suc i) text) = value ∙ ap (digits_value_after 10 n) (drop-cons text i 0 more) in
    let rest = le-digits_value_after (n * 10 + digit_value (get_or text i 0)) (drop (suc i) text) in
    too_large text (omega (arith, whole, rest))

own_digits : IsNumeralModel (λ ds. all_ascii_digits ds ≡ true) (digits_value 10)
own_digits = numerals_by_value _ tells_all_ascii_digits

-- a number of a line is read again
pub number_in-decimal : (n : ℕ) → n ≤ 2 ^ 40 → number_in (decimal n) ≡ Some n
number_in-decimal n small =
    let fits : n < 2 ^ 64 = omega (arith, small) in
    let value : digits_value 10 (decimal n) ≡ n = digits_value-decimal own_digits n fits in
    ap (λ (b : Bool). if b then Some (digits_value 10 (decimal n)) else None)
    (and_from (all_ascii_digits (decimal n)) (nat_lt (digits_value 10 (decimal n)) 10000000000000) (digits_decimal own_digits n fits)
    (lt-ltb (digits_value 10 (decimal n)) 10000000000000 (omega (arith, value, small))))
    ∙ ap Some value
