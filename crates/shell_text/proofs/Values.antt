-- The values of a line: what is read as one is written so, and what is written so is read.
use Rattle.std.proofs.lemmas.Grind.{common_steps}
use Rattle.std.proofs.Common.{◌≡◌, ℕ, ◌≤◌, false, List, [], length, Some, None, Result, Ok, Err, sym, ap, ◌∙◌, arith, inl, inr}
use Rattle.std.specs.Prelude.{if◌then◌else◌, codes}
use Rattle.std.specs.Result.{result_ok}
use Rattle.std.specs.Str.{bytes_eq}
use Rattle.std.proofs.lemmas.Bool.{ltb-false, le-ltb, false_from_ne_true}
use Rattle.std.proofs.lemmas.Slice.Eq.{bytes_eq-Decides}
use Rattle.std.proofs.lemmas.Option.{same_Some}
use Rattle.hex.specs.Hex.{decode_of}
use Rattle.hex.specs.declared.error.FromHexError.{FromHexError}
use Rattle.shell_text.specs.Grammar.{IsHex}
use Rattle.shell_text.specs.Reading.{value_of}
use Rattle.shell_text.proofs.Numbers.{chosen}

ok_is : (r : Result (List ℕ) FromHexError) (value : List ℕ) → result_ok r ≡ Some value → r ≡ Ok value
ok_is (Ok x) value e = ap Ok (same_Some x value e)
ok_is (Err f) value e = cc e

pub value_of-some : (text value : List ℕ) → value_of text ≡ Some value → IsHex text value
value_of-some text value e = grind (arith, common_steps, chosen, bytes_eq-Decides, same_Some, ltb-false, ok_is)

-- a text of two digits or more is no dash
no_dash : (text : List ℕ) → 2 ≤ length text → bytes_eq text (codes "-") ≡ false
no_dash text long =
    false_from_ne_true (bytes_eq text (codes "-")) (λ is. let one : length text ≡ 1 = ap length ((bytes_eq-Decides text (codes "-")).0 is) in omega (arith, one, long))

pub value_of-hex : (text value : List ℕ) → IsHex text value → value_of text ≡ Some value
value_of-hex text value (inl dash) = ap value_of dash.0 ∙ ap Some (sym dash.1)
value_of-hex text value (inr digits) =
    (λ i. if no_dash text digits.0 i then Some [] else if le-ltb (length text) 2 digits.0 i then None else result_ok (decode_of text))
    ∙ ap result_ok digits.1
