-- What a line says, as a function.
use Rattle.std.specs.Prelude.{ℕ, ◌==◌, ◌&&◌, nat_le, nat_lt, List, [], ◌∷◌, length, codes, Option, Some, None}
use Rattle.std.specs.Prelude.{option_map, option_and_then, if◌then◌else◌}
use Rattle.std.specs.List.{slice_split}
use Rattle.std.specs.Result.{result_ok}
use Rattle.std.specs.Str.{all_ascii_digits, bytes_eq}
use Rattle.std.specs.Str.Parse.{digits_value}
use Rattle.hex.specs.Hex.{decode_of}
use Rattle.record_model.specs.declared.words.Command.{Command}
use Rattle.record_model.specs.declared.words.Command.TheVariants.{Begin, Read, Write, Erase, Scan, Commit, Abort, Get}
use Rattle.record_model.specs.declared.words.Command.TheVariants.{Mark, Back, Set, Checkpoint, Cache, Stat, Quit}
use Rattle.record_model.specs.Run.{Line}
use Rattle.shell_text.specs.declared.grammar.TheConstants.{LINE_MAX, COUNT_MAX}

-- the parts of a line between its spaces
abbrev pub words_of : List ℕ → List (List ℕ)
words_of text = slice_split (λ x. x == 32) text

-- what digits alone write, where it is below a thousand million
abbrev pub small_number : List ℕ → Option ℕ
small_number text =
    if all_ascii_digits text && nat_lt (digits_value 10 text) 1000000000 then Some (digits_value 10 text) else None

-- the same with no leading zero but 0 itself
abbrev pub number_of : List ℕ → Option ℕ
number_of [] = None
number_of (x ∷ []) = small_number (x ∷ [])
number_of (x ∷ y ∷ digits) = if x == 48 then None else small_number (x ∷ y ∷ digits)

abbrev pub value_of : List ℕ → Option (List ℕ)
value_of text = if bytes_eq text (codes "-") then Some []
    else if nat_lt (length text) 2 then None else result_ok (decode_of text)

abbrev pub bare_command : List ℕ → Option Command
bare_command name = if bytes_eq name (codes "checkpoint") then Some Checkpoint
    else if bytes_eq name (codes "cache") then Some Cache
    else if bytes_eq name (codes "stat") then Some Stat
    else if bytes_eq name (codes "quit") then Some Quit
    else None

abbrev pub command_of_one : List ℕ → ℕ → Option Command
command_of_one name number = if bytes_eq name (codes "begin") then Some (Begin number)
    else if bytes_eq name (codes "commit") then Some (Commit number)
    else if bytes_eq name (codes "abort") then Some (Abort number)
    else if bytes_eq name (codes "mark") then Some (Mark number)
    else if bytes_eq name (codes "back") then Some (Back number None)
    else if bytes_eq name (codes "get") then Some (Get number)
    else None

abbrev pub command_of_two : List ℕ → ℕ → ℕ → Option Command
command_of_two name session number = if bytes_eq name (codes "read") then Some (Read session number)
    else if bytes_eq name (codes "erase") then Some (Erase session number)
    else if bytes_eq name (codes "back") then Some (Back session (Some number))
    else None

abbrev pub scan_of : ℕ → ℕ → ℕ → Option Command
scan_of session number count =
    if nat_le 1 count && nat_le count COUNT_MAX then Some (Scan session number count) else None

-- a name, a number, and one word more
abbrev pub two_words : List ℕ → List ℕ → ℕ → Option Command
two_words name text number = if bytes_eq name (codes "set") then option_map (Set number) (value_of text)
    else option_and_then (command_of_two name number) (number_of text)

-- a name, two numbers, and one word more
abbrev pub three_words : List ℕ → List ℕ → ℕ → ℕ → Option Command
three_words name text session number =
    if bytes_eq name (codes "write") then option_map (Write session number) (value_of text)
    else if bytes_eq name (codes "scan") then option_and_then (scan_of session number) (number_of text)
    else None

-- the command of a line's words
abbrev pub command_in : List (List ℕ) → Option Command
command_in (name ∷ []) = bare_command name
command_in (name ∷ a ∷ []) = option_and_then (command_of_one name) (number_of a)
command_in (name ∷ a ∷ b ∷ []) = option_and_then (two_words name b) (number_of a)
command_in (name ∷ a ∷ b ∷ c ∷ []) =
    option_and_then (λ session. option_and_then (three_words name c session) (number_of b)) (number_of a)
command_in _ = None

-- what a line says: a command, or none where the line isn't in the grammar
abbrev pub line_of : List ℕ → Line
line_of line = if nat_lt LINE_MAX (length line) then None else command_in (words_of line)
