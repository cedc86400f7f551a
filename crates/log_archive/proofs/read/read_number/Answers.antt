use Rattle.std.proofs.Common.{arith, sym}
use Rattle.log_archive.proofs.Numbered.{number_in-too_large}
use Rattle.log_archive.proofs.read.read_number.Goals as goal

pub returns-then-value-ge1000000000000 : goal.returns-then-value-ge1000000000000
returns-then-value-ge1000000000000 c = sym (number_in-too_large c.args.digits.now c.loop-digit.value c.loop-digit.digit-index c.loop-digit.invariant.value (omega arith) (omega arith))
