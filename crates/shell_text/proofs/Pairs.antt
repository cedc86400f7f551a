-- How pairs of hex digits are read into octets.
use Rattle.std.proofs.lemmas.Grind.{common_steps}
use Rattle.std.proofs.Common.{◌≡◌, ℕ, ◌+◌, ◌*◌, ◌%◌, ◌≤◌, ◌<◌, List, length, take, drop, slice_index, slice_set, Option, Some, None, Result, Ok, Err, unwrap_or, refl, sym, ap, ◌∙◌, arith, inl, inr}
use Rattle.std.specs.Prelude.{max, nat_lt, if◌then◌else◌}
use Rattle.std.specs.Result.{result_ok}
use Rattle.std.proofs.lemmas.Bool.{cases_lt, lt-ltb, le-ltb}
use Rattle.hex.specs.Hex.{decode_pairs, decode_of, pair_value, value_at, hex_digit_value, digit_or_error}
use Rattle.hex.specs.declared.error.FromHexError.{FromHexError}
use Rattle.hex.specs.declared.error.FromHexError.TheVariants.{InvalidHexCharacter}
use Rattle.hex.proofs.HexLemmas.{decode_of-even}
use Rattle.hex.proofs.Pairs.{prepend, decode_step, decode_err, decode_done}

-- what a digit stands for, or 255
abbrev pub value_or_255 : ℕ → ℕ
value_or_255 c = unwrap_or (hex_digit_value c) 255

digit_is : (o : Option ℕ) → unwrap_or o 255 < 16 → o ≡ Some (unwrap_or o 255)
digit_is (Some v) small = refl
digit_is None small = absurd (omega (arith, small))

digit_small : (c v : ℕ) → hex_digit_value c ≡ Some v → v < 16
digit_small c v is = grind (arith, common_steps)

-- two digits
pair_ok : (a b i : ℕ) → value_or_255 a < 16 → value_or_255 b < 16 → pair_value a b i ≡ Ok (value_or_255 a * 16 + value_or_255 b)
pair_ok a b i first second =
    let high = digit_is (hex_digit_value a) first in
    let low = digit_is (hex_digit_value b) second in
    rw (high, low) refl

no_digit : (c : ℕ) (o : Option ℕ) → hex_digit_value c ≡ o → 16 ≤ unwrap_or o 255 → hex_digit_value c ≡ None
no_digit c None is large = is
no_digit c (Some v) is large = let small = digit_small c v is in absurd (omega (arith, small, large))

no_digit_err : (c i : ℕ) → 16 ≤ value_or_255 c → value_at c i ≡ Err (InvalidHexCharacter c i)
no_digit_err c i large = ap (digit_or_error c i) (no_digit c (hex_digit_value c) refl large)

-- of which the first is none
first_err : (a b i : ℕ) → 16 ≤ value_or_255 a → pair_value a b i ≡ Err (InvalidHexCharacter a i)
first_err a b i large =
    let is = no_digit_err a i large in
    rw is refl

-- of which the second is none
second_err : (a b i : ℕ) → value_or_255 a < 16 → 16 ≤ value_or_255 b → pair_value a b i ≡ Err (InvalidHexCharacter b (i + 1))
second_err a b i small large =
    let first = digit_is (hex_digit_value a) small in
    let is = no_digit_err b (i + 1) large in
    rw (first, is) refl

-- so many pairs were read, and this is the greatest that a digit stands for
pub record PairsRead (digits octets : List ℕ) (place greatest : ℕ) : Type 0 where
  pub good : greatest < 16 → decode_pairs 0 digits ≡ prepend (take place octets) (decode_pairs (2 * place) (drop (2 * place) digits))
  pub bad : 16 ≤ greatest → result_ok (decode_pairs 0 digits) ≡ None

failed : (digits : List ℕ) (e : FromHexError) → decode_pairs 0 digits ≡ Err e → result_ok (decode_pairs 0 digits) ≡ None
failed digits e is = ap result_ok is

-- one pair more
pub pair_read : (digits octets : List ℕ) (place greatest greatest' octet : ℕ) → 2 * place + 1 < length digits → place < length octets
    → greatest' ≡ max (max greatest (value_or_255 (slice_index digits (2 * place)))) (value_or_255 (slice_index digits (2 * place + 1)))
    → octet ≡ (value_or_255 (slice_index digits (2 * place)) * 16 + value_or_255 (slice_index digits (2 * place + 1))) % 256
    → PairsRead digits octets place greatest → PairsRead digits (slice_set octets place octet) (place + 1) greatest'
pair_read digits octets place greatest greatest' octet fits room most is r = record {
  good = λ small.
      let a : value_or_255 (slice_index digits (2 * place)) < 16 = omega (arith, most, small) in
      let b : value_or_255 (slice_index digits (2 * place + 1)) < 16 = omega (arith, most, small) in
      let before : greatest < 16 = omega (arith, most, small) in
      let whole : value_or_255 (slice_index digits (2 * place)) * 16 + value_or_255 (slice_index digits (2 * place + 1)) ≡ octet = omega (arith, is, a, b) in
      decode_step digits octets place octet fits room (pair_ok (slice_index digits (2 * place)) (slice_index digits (2 * place + 1)) (2 * place) a b ∙ ap Ok whole) (r.good before);
  bad = λ large. elim (cases_lt greatest 16) [
    | inl before ↦
        elim (cases_lt (value_or_255 (slice_index digits (2 * place))) 16) [
          | inl first ↦
              let second : 16 ≤ value_or_255 (slice_index digits (2 * place + 1)) = omega (arith, most, large, before, first) in
              failed digits _ (decode_err digits octets place _ fits (second_err (slice_index digits (2 * place)) (slice_index digits (2 * place + 1)) (2 * place) first second) (r.good before))
          | inr first ↦
              failed digits _ (decode_err digits octets place _ fits (first_err (slice_index digits (2 * place)) (slice_index digits (2 * place + 1)) (2 * place) first) (r.good before))
        ]
    | inr already ↦ r.bad already
  ];
}

-- all were read
pub all_read : (digits octets : List ℕ) (place greatest : ℕ) → length digits ≡ 2 * length octets → length octets ≤ place → PairsRead digits octets place greatest
    → result_ok (decode_of digits) ≡ (if nat_lt greatest 16 then Some octets else None)
all_read digits octets place greatest long all r =
    ap result_ok (decode_of-even digits (omega (arith, long)))
    ∙ elim (cases_lt greatest 16) [
      | inl small ↦
          ap result_ok (decode_done digits octets place all (omega (arith, long, all)) (r.good small))
          ∙ (λ i. if sym (lt-ltb greatest 16 small) i then Some octets else None)
      | inr large ↦ r.bad large ∙ (λ i. if sym (le-ltb greatest 16 large) i then Some octets else None)
    ]
