use Rattle.shell_text.proofs.Read.{lines_are_read}
use Rattle.shell_text.proofs.laws.lines_are_read.Goals as goal

pub returns : goal.returns
returns c = lines_are_read
