-- Which lines are commands.
use Rattle.std.specs.Prelude.{◌≡◌, ◌⊎◌, ℕ, ◌^◌, ◌<◌, ◌≤◌, List, [], ◌∷◌, ◌++◌, length, map, codes, decimal, Ok, Some}
use Rattle.std.specs.Prelude.{None}
use Rattle.std.specs.List.{AllByRecursion, join_with_byte}
use Rattle.hex.specs.Hex.{decode_of}
use Rattle.record_model.specs.declared.words.Command.{Command}
use Rattle.record_model.specs.declared.words.Command.TheVariants.{Begin, Read, Write, Erase, Scan, Commit, Abort, Get}
use Rattle.record_model.specs.declared.words.Command.TheVariants.{Mark, Back, Set, Checkpoint, Cache, Stat, Quit}
use Rattle.shell_text.specs.declared.grammar.TheConstants.{LINE_MAX, COUNT_MAX}

-- A number of a line is below this, so that it has one to nine digits. It is written in decimal, with no leading zero.
abbrev pub IsNumber : ℕ → Type 0
IsNumber number = number < 10 ^ 9

-- A value is written in two hexadecimal digits of either case for each octet, and the empty value as a dash.
abbrev pub IsHex : List ℕ → List ℕ → Type 0
IsHex text value = ((text ≡ codes "-") × (value ≡ [])) ⊎ ((2 ≤ length text) × (decode_of text ≡ Ok value))

-- the words are a name and these numbers
abbrev pub Says : List (List ℕ) → List ℕ → List ℕ → Type 0
Says words name numbers = (words ≡ name ∷ map decimal numbers) × AllByRecursion IsNumber numbers

-- the words are a name, these numbers, and a value
pub record SaysValue (words : List (List ℕ)) (name numbers value : List ℕ) : Type 0 where
  pub text : List ℕ
  pub hex : IsHex text value
  pub says : words ≡ name ∷ map decimal numbers ++ text ∷ []
  pub are_numbers : AllByRecursion IsNumber numbers

-- the words of each command
abbrev pub IsSpelled : List (List ℕ) → Command → Type 0
IsSpelled words (Begin session) = Says words (codes "begin") (session ∷ [])
IsSpelled words (Read session number) = Says words (codes "read") (session ∷ number ∷ [])
IsSpelled words (Write session number value) = SaysValue words (codes "write") (session ∷ number ∷ []) value
IsSpelled words (Erase session number) = Says words (codes "erase") (session ∷ number ∷ [])
IsSpelled words (Scan session number count) = Says words (codes "scan") (session ∷ number ∷ count ∷ []) × (1 ≤ count)
    × (count ≤ COUNT_MAX)
IsSpelled words (Commit session) = Says words (codes "commit") (session ∷ [])
IsSpelled words (Abort session) = Says words (codes "abort") (session ∷ [])
IsSpelled words (Mark session) = Says words (codes "mark") (session ∷ [])
IsSpelled words (Back session None) = Says words (codes "back") (session ∷ [])
IsSpelled words (Back session (Some standing)) = Says words (codes "back") (session ∷ standing ∷ [])
IsSpelled words (Get number) = Says words (codes "get") (number ∷ [])
IsSpelled words (Set number value) = SaysValue words (codes "set") (number ∷ []) value
IsSpelled words Checkpoint = Says words (codes "checkpoint") []
IsSpelled words Cache = Says words (codes "cache") []
IsSpelled words Stat = Says words (codes "stat") []
IsSpelled words Quit = Says words (codes "quit") []

-- A line is a command where it is the command's words with one space between them, and isn't too long.
pub record IsCommandLine (line : List ℕ) (command : Command) : Type 0 where
  pub words : List (List ℕ)
  pub spaced : line ≡ join_with_byte 32 words
  pub spelled : IsSpelled words command
  pub short : length line ≤ LINE_MAX
