use Rattle.std.proofs.Common.{arith, sym}
use Rattle.shell_text.proofs.Digits.{small_number-too_large}
use Rattle.shell_text.proofs.grammar.read_digits.Goals as goal

pub returns-then-value-ge100000000 : goal.returns-then-value-ge100000000
returns-then-value-ge100000000 c = sym (small_number-too_large c.args.digits.now c.loop-digit.value c.loop-digit.digit-index c.loop-digit.invariant.value (omega arith) (omega arith))
