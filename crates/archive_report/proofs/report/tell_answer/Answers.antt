use Rattle.archive_report.proofs.Names.{◌≡◌, ◌<◌, ◌∙◌, ap, arith, ahead_line, gone_line, oldest_in, units_in}
use Rattle.archive_report.proofs.WholeAnswer.{ahead_told, gone_told}
use Rattle.archive_report.proofs.report.tell_answer.Goals as goal

pub returns-then-from-oldest-clause-tells : goal.returns-then-from-oldest-clause-tells
returns-then-from-oldest-clause-tells g c honest finds =
    let old = g.S.Site.state c.args.site.now in
    let ring = c.args.ring.now in
    let oldest : c.oldest-oldest.result ≡ oldest_in ring.shape (units_in ring.shape old) = omega (arith, c.oldest-oldest.ensures, finds.hi) in
    let less : c.args.from < oldest_in ring.shape (units_in ring.shape old) = omega (arith, oldest, c.if-from-oldest.true) in
    gone_told ring c.args.from c.as_slice.result.now c.tell_missing.result old (g.S.Site.state c.tell_missing.new.site) less
    (c.as_slice.ensures.value ∙ c.gone.ensures ∙ ap gone_line oldest) (c.tell_missing.ensures.tells honest) c.tell_missing.ensures.status

pub returns-then-from-hi-clause-tells : goal.returns-then-from-hi-clause-tells
returns-then-from-hi-clause-tells g c honest finds =
    let old = g.S.Site.state c.args.site.now in
    let ring = c.args.ring.now in
    let next : c.hi-then-from-hi.result ≡ (units_in ring.shape old).hi = c.hi-then-from-hi.ensures ∙ finds.hi in
    let less : (units_in ring.shape old).hi < c.args.from = omega (arith, c.hi.ensures, finds.hi, c.if-from-hi.true) in
    ahead_told ring c.args.from c.as_slice-then-from-hi.result.now c.tell_missing-then-from-hi.result old (g.S.Site.state c.tell_missing-then-from-hi.new.site) less
    (c.as_slice-then-from-hi.ensures.value ∙ c.ahead.ensures ∙ ap ahead_line next) (c.tell_missing-then-from-hi.ensures.tells honest) c.tell_missing-then-from-hi.ensures.status
