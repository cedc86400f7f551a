-- A line is read as what it is in the grammar.
use Rattle.std.proofs.Common.{arith}
use Rattle.std.proofs.lemmas.Grind.{common_steps}
use Rattle.std.proofs.Common.{◌≡◌, ℕ, ◌≤◌, List, length, Some, None, Result, Ok, Err, sym, ◌∙◌, inl, inr}
use Rattle.std.specs.Prelude.{nat_lt, if◌then◌else◌, IsErr, IfOk}
use Rattle.std.specs.List.{join_with_byte}
use Rattle.std.specs.Result.{result_ok}
use Rattle.std.proofs.lemmas.Bool.{ltb-false, le-ltb}
use Rattle.std.proofs.lemmas.List.Splits.{join_with_byte-slice_split}
use Rattle.std.proofs.lemmas.Option.{same_Some}
use Rattle.record_model.specs.declared.words.Command.{Command}
use Rattle.shell_text.specs.declared.grammar.TheConstants.{LINE_MAX}
use Rattle.shell_text.specs.declared.grammar.BadLine.{BadLine}
use Rattle.shell_text.specs.Grammar.{IsCommandLine, IsSpelled}
use Rattle.shell_text.specs.Reading.{words_of, command_in, line_of}
use Rattle.shell_text.specs.Laws.{LinesAreRead, LinesAreOneCommand}
use Rattle.shell_text.proofs.Numbers.{chosen}
use Rattle.shell_text.proofs.Commands.{command_in-some, command_in-spelled}
use Rattle.shell_text.proofs.Spacing.{words_of-join, spelled_words}

pub line_of-some : (line : List ℕ) (c : Command) → line_of line ≡ Some c → IsCommandLine line c
line_of-some line c e =
    elim (chosen (nat_lt LINE_MAX (length line)) None (command_in (words_of line)) (Some c) e) [
      | inl long ↦ cc long.1
      | inr short ↦ record {
        words = words_of line;
        spaced = sym (join_with_byte-slice_split 32 line);
        spelled = command_in-some (words_of line) c short.1;
        short = ltb-false LINE_MAX (length line) short.0;
      }
    ]

-- the words of a line that is spelled so
words_of-line : (line : List ℕ) (c : Command) (words : List (List ℕ)) → line ≡ join_with_byte 32 words → IsSpelled words c → words_of line ≡ words
words_of-line line c words spaced spelled = grind (arith, common_steps, spelled_words, words_of-join)

pub line_of-command : (line : List ℕ) (c : Command) → IsCommandLine line c → line_of line ≡ Some c
line_of-command line c is = grind (arith, common_steps, le-ltb, words_of-line, command_in-spelled)

pub lines_are_read : LinesAreRead
lines_are_read line c = (line_of-some line c, line_of-command line c)

pub lines_are_one_command : LinesAreOneCommand
lines_are_one_command line one other first second = same_Some one other (sym (line_of-command line one first) ∙ line_of-command line other second)

-- what was read, and what wasn't
pub is_no_command : (r : Result Command BadLine) (line : List ℕ) → result_ok r ≡ line_of line → IsErr r → (c : Command) → IsCommandLine line c → ⊥
is_no_command (Ok d) line e err c is = cc err
is_no_command (Err f) line e err c is = cc (e ∙ line_of-command line c is)

pub is_command : (r : Result Command BadLine) (line : List ℕ) → result_ok r ≡ line_of line → IfOk r (IsCommandLine line)
is_command (Ok d) line e = line_of-some line d (sym e)
is_command (Err f) line e = tt

-- of a line that isn't too long
pub line_of-short : (line : List ℕ) → length line ≤ LINE_MAX → line_of line ≡ command_in (words_of line)
line_of-short line short = λ i. if le-ltb LINE_MAX (length line) short i then None else command_in (words_of line)
