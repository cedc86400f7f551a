-- Decimal digits that are read on from the left.
use Rattle.std.proofs.lemmas.Grind.{common_steps}
use Rattle.std.proofs.Common.{◌≡◌, ℕ, ◌+◌, ◌*◌, ◌≤◌, ◌<◌, List, [], ◌∷◌, length, get_or, drop, None, ap, ◌∙◌, arith, suc, drop-cons}
use Rattle.std.specs.Char.{digit_value}
use Rattle.std.specs.Str.Parse.{digits_value, digits_value_after}
use Rattle.std.proofs.lemmas.Bool.{and_right, le-ltb}
use Rattle.shell_text.specs.Reading.{small_number}

-- the digits behind a number only make it larger
le-digits_value_after : (n : ℕ) (ds : List ℕ) → n ≤ digits_value_after 10 n ds
le-digits_value_after n [] = omega arith
le-digits_value_after n (c ∷ cs) = let more = le-digits_value_after (n * 10 + digit_value c) cs in omega arith

-- digits that write a thousand million or more
too_large : (text : List ℕ) → 1000000000 ≤ digits_value 10 text → small_number text ≡ None
too_large text large = grind (arith, common_steps, and_right, le-ltb)

-- a digit more behind a hundred million
pub small_number-too_large : (text : List ℕ) (n i : ℕ) → digits_value 10 text ≡ digits_value_after 10 n (drop i text) → i < length text → 100000000 ≤ n → small_number text ≡ None
small_number-too_large text n i value more large =
    let whole : digits_value 10 text ≡ digits_value_after 10 n (get_or text i 0 ∷ drop (suc i) text) = value ∙ ap (digits_value_after 10 n) (drop-cons text i 0 more) in
    let rest = le-digits_value_after (n * 10 + digit_value (get_or text i 0)) (drop (suc i) text) in
    too_large text (omega (arith, whole, rest))
