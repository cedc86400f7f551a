use Rattle.std.proofs.Common.{ap, subst, sym, ◌∙◌, arith}
use Rattle.stream_report.specs.Contract.{VerifyContract}
use Rattle.stream_report.proofs.Told.{Tells, told_count, untold_count, told_halt}
use Rattle.stream_report.proofs.Firsts.{first_told, first_untold, first_halted}
use Rattle.stream_report.proofs.run.verify.Goals as goal

pub returns-in-Ok-tell_all-clause-verify : goal.returns-in-Ok-tell_all-clause-verify
returns-in-Ok-tell_all-clause-verify g c =
    let tells = c.in-Ok-tell_all.ensures in
    told_count _ _ _ _ _ _ c.hear_stream.ensures.preserves c.hear_stream.ensures.same
    (record { any_moment = tells.any_moment; told = tells.told; input = λ honest. (tells.same honest).left; reads = tells.reads; preserves = tells.preserves; cause = tells.cause })
    c.hear_stream.ensures.asks (λ honest. (c.in-Ok.commits, c.in-Ok.ensures.archive honest, c.as_slice.ensures.value ∙ c.verified.ensures))

pub returns-in-Err-tell_all-clause-verify : goal.returns-in-Err-tell_all-clause-verify
returns-in-Err-tell_all-clause-verify g c =
    let tells = c.in-Err-tell_all.ensures in
    untold_count _ _ _ _ _ _ c.hear_stream.ensures.preserves c.hear_stream.ensures.same
    (record { any_moment = tells.any_moment; told = tells.told; input = λ honest. (tells.same honest).left; reads = tells.reads; preserves = tells.preserves; cause = tells.cause })
    c.hear_stream.ensures.asks (λ honest. (c.in-Ok.commits, c.in-Ok.ensures.archive honest, c.as_slice.ensures.value ∙ c.verified.ensures))

pub returns-in-Err-clause-verify : goal.returns-in-Err-clause-verify
returns-in-Err-clause-verify g c =
    let old = g.S.Site.state c.args.site.now in
    let mid = g.S.Site.state c.hear_stream.new.site in
    let new = g.S.Site.state c.tell_all-in-Err.new.site in
    let tells = c.tell_all-in-Err.ensures in
    let told : Tells c.as_slice-in-Err.result.now mid new c.tell_all-in-Err.result = record {
      any_moment = tells.any_moment;
      told = tells.told;
      input = λ honest. (tells.same honest).left;
      reads = tells.reads;
      preserves = tells.preserves;
      cause = tells.cause;
    } in
    subst (λ n. VerifyContract c.args.pages old new n) (sym c.status.ensures)
    (told_halt c.args.pages c.in-Err.halt old mid new c.tell_all-in-Err.result c.hear_stream.ensures.preserves c.hear_stream.ensures.same
    (subst (λ t. Tells t mid new c.tell_all-in-Err.result) (c.as_slice-in-Err.ensures.value ∙ c.line.ensures) told) c.hear_stream.ensures.asks c.in-Err.ensures.cause)

pub returns-in-Ok-tell_all-clause-first : goal.returns-in-Ok-tell_all-clause-first
returns-in-Ok-tell_all-clause-first g c = grind (arith, first_told)

pub returns-in-Err-tell_all-clause-first : goal.returns-in-Err-tell_all-clause-first
returns-in-Err-tell_all-clause-first g c = grind (arith, first_untold)

pub returns-in-Err-clause-first : goal.returns-in-Err-clause-first
returns-in-Err-clause-first g c = grind (arith, first_halted)
