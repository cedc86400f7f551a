use Rattle.std.proofs.Common.{sym, ◌∙◌, arith}
use Rattle.shell_text.proofs.Read.{is_command, is_no_command, line_of-short}
use Rattle.shell_text.proofs.grammar.read_line.Goals as goal

pub returns-clause-command : goal.returns-clause-command
returns-clause-command c =
    is_command c.ok_or.result c.args.line.now (sym c.ok_or.ensures.ok_part ∙ c.read_words.ensures ∙ sym (line_of-short c.args.line.now (omega arith)))

pub returns-clause-bad : goal.returns-clause-bad
returns-clause-bad c =
    is_no_command c.ok_or.result c.args.line.now (sym c.ok_or.ensures.ok_part ∙ c.read_words.ensures ∙ sym (line_of-short c.args.line.now (omega arith)))
