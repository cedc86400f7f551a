use Rattle.shell_text.proofs.Decimals.{writes, writes_none}
use Rattle.shell_text.proofs.grammar.read_decimal.Goals as goal

pub returns-clause-number : goal.returns-clause-number
returns-clause-number c = writes c.read_number.result c.args.word.now c.read_number.ensures

pub returns-clause-none : goal.returns-clause-none
returns-clause-none c = writes_none c.read_number.result c.args.word.now c.read_number.ensures
