-- The lines of a log archive, without their newlines.
use Rattle.std.specs.Prelude.{◌≡◌, ℕ, ◌^◌, ◌<◌, ◌≤◌, List, ◌++◌, length, codes, decimal}
use Rattle.hex.specs.Hex.{encode_lower, IsBytes}
use Rattle.log_records.specs.declared.TheConstants.{BLOCK_LEN}

-- The text of a block: its number in decimal, and its content in two lower-case digits for each octet.
abbrev pub block_text : ℕ → List ℕ → List ℕ
block_text number content = codes "block " ++ decimal number ++ codes " " ++ encode_lower content

-- the text behind the last block, with the number of the next one
abbrev pub end_text : ℕ → List ℕ
end_text number = codes "end " ++ decimal number

-- The line is that of a block of this number, which a ring can have, with this content.
pub record IsBlockLine (line : List ℕ) (number : ℕ) (content : List ℕ) : Type 0 where
  pub fits : number < 2 ^ 40
  pub len : length content ≡ BLOCK_LEN
  pub octets : IsBytes content
  pub text : line ≡ block_text number content

-- the line is the last one, with this number
pub record IsEndLine (line : List ℕ) (number : ℕ) : Type 0 where
  pub fits : number ≤ 2 ^ 40
  pub text : line ≡ end_text number
