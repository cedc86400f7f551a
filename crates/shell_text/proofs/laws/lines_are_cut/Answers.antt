use Rattle.shell_text.proofs.Lines.{lines_of-newline, lines_of-waits, lines_of-end, lines_of-stay}
use Rattle.shell_text.proofs.laws.lines_are_cut.Goals as goal

pub returns : goal.returns
returns c = record { at_newline = lines_of-newline; waits = lines_of-waits; at_end = lines_of-end; whole_stay = lines_of-stay }
