-- How the input is cut into lines, and what a run tells.
use Rattle.std.specs.Prelude.{ℕ, ◌==◌, Bool, List, [], ◌∷◌, map, if◌then◌else◌}
use Rattle.std.specs.List.{concat}
use Rattle.record_model.specs.declared.words.CacheLine.{CacheLine}
use Rattle.record_model.specs.State.{State}
use Rattle.record_model.specs.Run.{Line, turns, replies}
use Rattle.shell_text.specs.Reading.{line_of}
use Rattle.shell_text.specs.Texts.{open_text, reply_text}

-- an octet more in front of the first line; where there is none it begins one, which counts where the input has ended
abbrev pub in_front : Bool → ℕ → List (List ℕ) → List (List ℕ)
in_front ended x (line ∷ lines) = (x ∷ line) ∷ lines
in_front ended x [] = if ended then (x ∷ []) ∷ [] else []

-- The lines of the octets heard: cut at newlines. What is behind the last newline is a line where the input has ended.
abbrev pub lines_of : Bool → List ℕ → List (List ℕ)
lines_of ended [] = []
lines_of ended (x ∷ octets) = if x == 10 then [] ∷ lines_of ended octets else in_front ended x (lines_of ended octets)

-- what each line says
abbrev pub commands_of : Bool → List ℕ → List Line
commands_of ended octets = map line_of (lines_of ended octets)

-- The texts of a run from an opening state over these lines: the opening's, and one for each line up to a quit. The
-- last argument says what the cache lists at each cache command.
abbrev pub texts : State → List Line → List (List CacheLine) → List (List ℕ)
texts opening lines listings =
    open_text opening.commits ∷ map reply_text (replies (turns opening lines listings))

-- all that the run tells
abbrev pub run_text : State → List Line → List (List CacheLine) → List ℕ
run_text opening lines listings = concat (texts opening lines listings)
