-- What follows from the grammar and the texts, for those who build on them.
use Rattle.std.specs.Prelude.{◌≡◌, ◌≢◌, ◌↔◌, ℕ, Bool, true, false, List, [], ◌∷◌, ◌++◌, Some}
use Rattle.std.specs.List.{AllByRecursion}
use Rattle.record_model.specs.declared.words.Command.{Command}
use Rattle.shell_text.specs.Grammar.{IsCommandLine}
use Rattle.shell_text.specs.Reading.{line_of}
use Rattle.shell_text.specs.Runs.{lines_of}

-- a line says a command where the grammar has it as that command
abbrev pub LinesAreRead : Type 0
LinesAreRead = (line : List ℕ) (command : Command) → (line_of line ≡ Some command) ↔ IsCommandLine line command

-- no line is two commands
abbrev pub LinesAreOneCommand : Type 0
LinesAreOneCommand = (line : List ℕ) (one other : Command) → IsCommandLine line one → IsCommandLine line other
    → one ≡ other

-- the octets of a line
abbrev pub HasNoNewline : List ℕ → Type 0
HasNoNewline octets = AllByRecursion (λ x. x ≢ 10) octets

-- the octets up to the first newline are the first line
abbrev pub EndsAtNewline : Type 0
EndsAtNewline = (ended : Bool) (line rest : List ℕ) → HasNoNewline line
    → lines_of ended (line ++ 10 ∷ rest) ≡ line ∷ lines_of ended rest

-- octets with no newline behind them are no line yet
abbrev pub WaitsForNewline : Type 0
WaitsForNewline = (line : List ℕ) → HasNoNewline line → lines_of false line ≡ []

-- and they are the last line where the input has ended
abbrev pub EndsWithInput : Type 0
EndsWithInput = (x : ℕ) (line : List ℕ) → HasNoNewline (x ∷ line) → lines_of true (x ∷ line) ≡ (x ∷ line) ∷ []

-- the lines up to a newline stay the same, whatever is heard behind it
abbrev pub WholeLinesStay : Type 0
WholeLinesStay = (ended : Bool) (octets rest : List ℕ)
    → lines_of ended (octets ++ 10 ∷ rest) ≡ lines_of false (octets ++ 10 ∷ []) ++ lines_of ended rest
