use Rattle.shell_text.proofs.Read.{lines_are_one_command}
use Rattle.shell_text.proofs.laws.lines_are_one_command.Goals as goal

pub returns : goal.returns
returns c = lines_are_one_command
