-- The parts of a line.
use Rattle.std.proofs.Common.{◌≡◌, ℕ, ◌+◌, ◌-◌, ◌*◌, ◌≤◌, List, ◌++◌, length, take, drop, Some, sym, ap, ◌∙◌, arith}
use Rattle.std.specs.Prelude.{codes, decimal}
use Rattle.std.specs.Result.{result_ok}
use Rattle.std.proofs.Math.Seq.{drop-append_seam, take-append_seam}
use Rattle.std.proofs.lemmas.List.{length-append, append_assoc, take_rest}
use Rattle.hex.specs.Hex.{encode_lower, decode_sized, lower_digits}
use Rattle.hex.proofs.HexLemmas.{length-encode_with, decode_sized-encode_lower}
use Rattle.log_records.specs.declared.TheConstants.{BLOCK_LEN}
use Rattle.log_archive.specs.Lines.{IsBlockLine, IsEndLine}
use Rattle.log_archive.specs.Numbers.{number_in}
use Rattle.log_archive.proofs.Numbered.{number_in-decimal}

-- The last line.

pub end_number : (line : List ℕ) (n : ℕ) → IsEndLine line n → number_in (take (length line - 4) (drop 4 line)) ≡ Some n
end_number line n is = ap number_in (take_rest line 4) ∙ ap (λ l. number_in (drop 4 l)) is.text ∙ number_in-decimal n is.fits

-- A block's line: digits behind a name, and as many octets behind a space.

abbrev parted : List ℕ → List ℕ → List ℕ
parted digits hex = codes "block " ++ digits ++ codes " " ++ hex

length-front : (digits : List ℕ) → length (codes "block " ++ digits ++ codes " ") ≡ 7 + length digits
length-front digits = let len = length-append digits (codes " ") in omega (arith, len)

length-parted : (digits hex : List ℕ) → length (parted digits hex) ≡ 7 + length digits + length hex
length-parted digits hex =
    let whole = length-append (codes "block " ++ digits ++ codes " ") hex in
    let first = length-front digits in
    omega (arith, whole, first)

hex_of : (digits hex : List ℕ) (k : ℕ) → k ≡ 7 + length digits → drop k (parted digits hex) ≡ hex
hex_of digits hex k is =
    ap (λ n. drop n (parted digits hex)) (is ∙ sym (length-front digits)) ∙ drop-append_seam (codes "block " ++ digits ++ codes " ") hex

digits_of : (digits hex : List ℕ) (k : ℕ) → k ≡ length digits → take k (drop 6 (parted digits hex)) ≡ digits
digits_of digits hex k is =
    ap (take k) (append_assoc digits (codes " ") hex) ∙ ap (λ n. take n (digits ++ (codes " " ++ hex))) is ∙ take-append_seam digits (codes " " ++ hex)

module _ (line : List ℕ) (n : ℕ) (content : List ℕ) (is : IsBlockLine line n content) where
  pub length-line : length line ≡ 7 + length (decimal n) + 2 * BLOCK_LEN
  length-line =
      let whole = ap length is.text ∙ length-parted (decimal n) (encode_lower content) in
      let hex = length-encode_with lower_digits content in
      omega (arith, whole, hex, is.len)

  pub block_long : 1013 ≤ length line
  block_long = omega (arith, length-line)

  pub block_number : (k : ℕ) → k + 1013 ≡ length line → number_in (take k (drop 6 line)) ≡ Some n
  block_number k at =
      ap (λ l. number_in (take k (drop 6 l))) is.text
      ∙ ap number_in (digits_of (decimal n) (encode_lower content) k (omega (arith, at, length-line)))
      ∙ number_in-decimal n (omega (arith, is.fits))

  pub block_content : (k : ℕ) → k + 1006 ≡ length line → result_ok (decode_sized (take (length line - k) (drop k line)) BLOCK_LEN) ≡ Some content
  block_content k at =
      ap (λ l. result_ok (decode_sized l BLOCK_LEN)) (take_rest line k)
      ∙ ap result_ok (
      ap (λ l. decode_sized (drop k l) BLOCK_LEN) is.text
      ∙ ap (λ l. decode_sized l BLOCK_LEN) (hex_of (decimal n) (encode_lower content) k (omega (arith, at, length-line)))
      ∙ decode_sized-encode_lower content BLOCK_LEN is.len is.octets)
