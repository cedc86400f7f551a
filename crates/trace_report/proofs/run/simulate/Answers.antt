use Rattle.std.proofs.Common.{◌∙◌, arith}
use Rattle.trace_report.proofs.Told.{told_report, untold_report, told_halt}
use Rattle.trace_report.proofs.Firsts.{first_told, first_untold, first_halted}
use Rattle.trace_report.proofs.run.simulate.Goals as goal

pub returns-in-Ok-tell_all-clause-simulate : goal.returns-in-Ok-tell_all-clause-simulate
returns-in-Ok-tell_all-clause-simulate g c =
    let tells = c.in-Ok-tell_all.ensures in
    told_report _ _ _ _ _ _ _ c.run_trace.ensures.preserves c.run_trace.ensures.same c.run_trace.ensures.reads
    (record { any_moment = tells.any_moment; told = tells.told; reads = tells.reads; preserves = tells.preserves; cause = tells.cause })
    (λ honest. let r = c.in-Ok.ensures.report honest in (r.0, r.1, c.as_slice.ensures.value ∙ r.2))

pub returns-in-Err-tell_all-clause-simulate : goal.returns-in-Err-tell_all-clause-simulate
returns-in-Err-tell_all-clause-simulate g c =
    let tells = c.in-Err-tell_all.ensures in
    untold_report _ _ _ _ _ _ _ c.run_trace.ensures.preserves c.run_trace.ensures.same c.run_trace.ensures.reads
    (record { any_moment = tells.any_moment; told = tells.told; reads = tells.reads; preserves = tells.preserves; cause = tells.cause })
    (λ honest. let r = c.in-Ok.ensures.report honest in (r.0, r.1, c.as_slice.ensures.value ∙ r.2))

pub returns-in-Err-clause-simulate : goal.returns-in-Err-clause-simulate
returns-in-Err-clause-simulate g c = grind (arith, told_halt)

pub returns-in-Ok-tell_all-clause-first : goal.returns-in-Ok-tell_all-clause-first
returns-in-Ok-tell_all-clause-first g c = grind (arith, first_told)

pub returns-in-Err-tell_all-clause-first : goal.returns-in-Err-tell_all-clause-first
returns-in-Err-tell_all-clause-first g c = grind (arith, first_untold)

pub returns-in-Err-clause-first : goal.returns-in-Err-clause-first
returns-in-Err-clause-first g c = grind (arith, first_halted)
