use Rattle.archive_report.proofs.Names.{◌≤◌, ◌++◌, ℕ, refl, ◌∙◌, ap, arith, codes, oldest_in, end_text, units_in, stays_honest}
use Rattle.archive_report.proofs.WholeAnswer.{blocks_stop, end_stops, whole_told}
use Rattle.archive_report.proofs.report.tell_whole.Goals as goal

pub returns-in-Err-clause-tells : goal.returns-in-Err-clause-tells
returns-in-Err-clause-tells g c honest finds =
    let old = g.S.Site.state c.args.site.now in
    let ring = c.args.ring.now in
    let lives : oldest_in ring.shape (units_in ring.shape old) ≤ c.args.from = omega (arith, c.requires.lives, finds.hi) in
    let below : c.args.from ≤ (units_in ring.shape old).hi = omega (arith, c.requires.below, finds.hi) in
    blocks_stop ring c.args.from old lives below c.in-Err.halt (g.S.Site.state c.tell_blocks.new.site) (c.in-Err.ensures.tells honest finds)

pub returns-in-Ok-tell_line-clause-tells : goal.returns-in-Ok-tell_line-clause-tells
returns-in-Ok-tell_line-clause-tells g c honest finds =
    let old = g.S.Site.state c.args.site.now in
    let mid = g.S.Site.state c.tell_blocks.new.site in
    let new = g.S.Site.state c.tell_line.new.site in
    let ring = c.args.ring.now in
    let lives : oldest_in ring.shape (units_in ring.shape old) ≤ c.args.from = omega (arith, c.requires.lives, finds.hi) in
    let below : c.args.from ≤ (units_in ring.shape old).hi = omega (arith, c.requires.below, finds.hi) in
    whole_told ring c.args.from old lives below c.in-Ok.field-0 c.in-Ok-tell_line.field-0 0 c.as_slice.result.now mid new refl
    (c.as_slice.ensures.value ∙ c.end_line.ensures ∙ ap (λ (n : ℕ). end_text n ++ codes "\n") (c.hi.ensures ∙ finds.hi))
    (c.in-Ok.ensures.tells honest finds) (c.in-Ok-tell_line.ensures.tells (stays_honest old mid c.tell_blocks.ensures.goes.preserves honest))

pub returns-in-Err-tell_line-clause-tells : goal.returns-in-Err-tell_line-clause-tells
returns-in-Err-tell_line-clause-tells g c honest finds =
    let old = g.S.Site.state c.args.site.now in
    let mid = g.S.Site.state c.tell_blocks.new.site in
    let new = g.S.Site.state c.tell_line.new.site in
    let ring = c.args.ring.now in
    let lives : oldest_in ring.shape (units_in ring.shape old) ≤ c.args.from = omega (arith, c.requires.lives, finds.hi) in
    let below : c.args.from ≤ (units_in ring.shape old).hi = omega (arith, c.requires.below, finds.hi) in
    end_stops ring c.args.from old lives below c.in-Ok.field-0 c.in-Err-tell_line.halt c.as_slice.result.now mid new
    (c.as_slice.ensures.value ∙ c.end_line.ensures ∙ ap (λ (n : ℕ). end_text n ++ codes "\n") (c.hi.ensures ∙ finds.hi))
    (c.in-Ok.ensures.tells honest finds) (c.in-Err-tell_line.ensures.tells (stays_honest old mid c.tell_blocks.ensures.goes.preserves honest))
