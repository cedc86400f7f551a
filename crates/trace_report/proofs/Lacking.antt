-- Where memory is wanted before the trace is heard.
use Rattle.std.proofs.Common.{ℕ, arith}
use Rattle.std.specs.Prelude.{Result}
use Rattle.site.specs.State.{State}
use Rattle.site.proofs.Laws.{goes_nowhere}
use Rattle.site.specs.declared.outside.Failed.{Failed}
use Rattle.trace_report.specs.declared.halt.Halt.TheVariants as halt
use Rattle.trace_report.specs.Contract.{SimulateContract, halt_line}
use Rattle.trace_report.proofs.Told.{Tells, told_halt}

pub lacked : (groups pool : ℕ) (old new : State) (result : Result (Unit {0}) Failed) → Tells (halt_line halt.Memory) old new result → SimulateContract groups pool old new 4
lacked groups pool old new result tells = grind (arith, told_halt, goes_nowhere)
