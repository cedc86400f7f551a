use Rattle.std.proofs.Common.{◌≡◌, ◌+◌, ◌-◌, length, true, Some, sym, ◌∙◌, arith}
use Rattle.std.proofs.lemmas.Option.{none-some, same_Some}
use Rattle.log_archive.specs.Lines.{block_text}
use Rattle.log_archive.proofs.Lined.{block_long, block_number, block_content}
use Rattle.log_archive.proofs.read.read_block.Goals as goal

pub returns-then-line-clause-read : goal.returns-then-line-clause-read
returns-then-line-clause-read c = λ n content is. let long = block_long c.args.line.now n content is in absurd (omega (arith, long))

pub returns-in_err-number-clause-read : goal.returns-in_err-number-clause-read
returns-in_err-number-clause-read c = λ n content is.
    let long = block_long c.args.line.now n content is in
    absurd (none-some n (sym c.in_err-number.was ∙ c.read_number.ensures ∙ block_number c.args.line.now n content is (length c.args.line.now - 1007 - 6) (omega (arith, long))))

pub returns-in_err-content-clause-read : goal.returns-in_err-content-clause-read
returns-in_err-content-clause-read c = λ n content is.
    let long = block_long c.args.line.now n content is in
    absurd (none-some content (sym c.in_err-content.was ∙ c.read_content.ensures ∙ block_content c.args.line.now n content is (length c.args.line.now - 1007 + 1) (omega (arith, long))))

pub returns-then-number-ge-NUMBER_MAX-clause-read : goal.returns-then-number-ge-NUMBER_MAX-clause-read
returns-then-number-ge-NUMBER_MAX-clause-read c = λ n content is.
    let long = block_long c.args.line.now n content is in
    let same : c.in_ok-number.number ≡ n = same_Some _ _ (sym c.in_ok-number.was ∙ c.read_number.ensures ∙ block_number c.args.line.now n content is (length c.args.line.now - 1007 - 6) (omega (arith, long))) in
    let fits = is.fits in
    absurd (omega (arith, same, fits))

pub returns-then-is_text-clause-read : goal.returns-then-is_text-clause-read
returns-then-is_text-clause-read c = λ n content is.
    let long = block_long c.args.line.now n content is in
    let number : c.in_ok-number.number ≡ n = same_Some _ _ (sym c.in_ok-number.was ∙ c.read_number.ensures ∙ block_number c.args.line.now n content is (length c.args.line.now - 1007 - 6) (omega (arith, long))) in
    let octets : c.in_ok-content.content ≡ content = same_Some _ _ (sym c.in_ok-content.was ∙ c.read_content.ensures ∙ block_content c.args.line.now n content is (length c.args.line.now - 1007 + 1) (omega (arith, long))) in
    λ i. Some (number i, octets i)

pub returns-else-is_text-clause-read : goal.returns-else-is_text-clause-read
returns-else-is_text-clause-read c = λ n content is.
    let long = block_long c.args.line.now n content is in
    let number : c.in_ok-number.number ≡ n = same_Some _ _ (sym c.in_ok-number.was ∙ c.read_number.ensures ∙ block_number c.args.line.now n content is (length c.args.line.now - 1007 - 6) (omega (arith, long))) in
    let octets : c.in_ok-content.content ≡ content = same_Some _ _ (sym c.in_ok-content.was ∙ c.read_content.ensures ∙ block_content c.args.line.now n content is (length c.args.line.now - 1007 + 1) (omega (arith, long))) in
    let told : c.is_text.result ≡ true = c.is_text.ensures.1 (c.block_words.ensures.text ∙ (λ i. block_text (number i) (octets i)) ∙ sym is.text) in
    cc
