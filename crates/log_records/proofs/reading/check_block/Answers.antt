use Rattle.std.proofs.Common.{◌≡◌, arith, subst, sym, ◌∙◌, true≢false}
use Rattle.std_lemmas.proofs.Results.{on_err}
use Rattle.log_records.proofs.Blocks.{ReadTo, read_more, not_block, is_block, zeros_behind, zero_to_the_end, zero_from_the_end, used_is, used_low, some_octet}
use Rattle.log_records.proofs.reading.check_block.Goals as goal
use Rattle.log_records.proofs.reading.check_block.Goals.{then-used-lt3-via-then-used-lt3, then-used-lt3-via-else-used-lt3+then-used-gt-BLOCK_LEN}

pub returns-then-used-lt3-clause-bad : goal.returns-then-used-lt3-clause-bad
returns-then-used-lt3-clause-bad c = λ all is.
    let end = used_is c.args.content.now all c.get_u16-used.result is c.get_u16-used.ensures in
    let low = used_low all is.are_block in
    let high = is.are_block.room in
    elim c.then-used-lt3.branch [
      | then-used-lt3-via-then-used-lt3 w ↦ omega (arith, end, low, w.if-used-lt3.true)
      | then-used-lt3-via-else-used-lt3+then-used-gt-BLOCK_LEN w ↦ omega (arith, end, high, w.if-used-gt-BLOCK_LEN.true)
    ]

pub returns-in_err-_rec-clause-bad : goal.returns-in_err-_rec-clause-bad
returns-in_err-_rec-clause-bad c = on_err c.from_residual.result _
    (not_block c.args.content.now c.get_u16-used.result c.loop-at.at c.loop-at.invariant c.get_u16-used.ensures c.loop-at-test.true c.in_err-_rec.ensures.bad)

pub loop-at-preserved : goal.loop-at-preserved
loop-at-preserved c =
    read_more c.args.content.now c.get_u16-used.result c.loop-at.at c.in_ok-_rec.end c.loop-at.invariant c.get_u16-used.ensures c.in_ok-_rec._rec c.in_ok-_rec.ensures.found

pub returns-then-all_zero-clause-found : goal.returns-then-all_zero-clause-found
returns-then-all_zero-clause-found c =
    let at_end : c.loop-at.at ≡ c.get_u16-used.result = omega (arith, c.loop-at-test.false, c.loop-at.invariant.to) in
    is_block c.args.content.now c.get_u16-used.result (subst (ReadTo c.args.content.now c.get_u16-used.result) at_end c.loop-at.invariant)
    c.get_u16-used.ensures (λ i. omega (arith, c.type_inv.content i)) c.requires c.if-used-lt3.false c.if-used-gt-BLOCK_LEN.false (zero_to_the_end c.args.content.now c.get_u16-used.result (c.all_zero.ensures.0 c.if-all_zero.true))

pub returns-else-all_zero-clause-bad : goal.returns-else-all_zero-clause-bad
returns-else-all_zero-clause-bad c = λ all is.
    let at_end : c.loop-at.at ≡ c.get_u16-used.result = omega (arith, c.loop-at-test.false, c.loop-at.invariant.to) in
    let zero = zeros_behind c.args.content.now c.get_u16-used.result (subst (ReadTo c.args.content.now c.get_u16-used.result) at_end c.loop-at.invariant)
    c.get_u16-used.ensures all is in
    true≢false (sym (c.all_zero.ensures.1 (zero_from_the_end c.args.content.now c.get_u16-used.result zero)) ∙ c.if-all_zero.false)

pub loop-at-smaller : goal.loop-at-smaller
loop-at-smaller c =
    let found = c.in_ok-_rec.ensures.found in
    omega (arith, some_octet c.in_ok-_rec._rec, found.length_is, found.inside, c.loop-at-test.true)
