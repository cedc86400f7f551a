use Rattle.std.proofs.Common.{◌≡◌, true, sym, ap, ◌∙◌, arith}
use Rattle.std.proofs.lemmas.Option.{none-some, same_Some}
use Rattle.log_archive.specs.Lines.{end_text}
use Rattle.log_archive.proofs.Lined.{end_number}
use Rattle.log_archive.proofs.read.read_end.Goals as goal

pub returns-in_err-number-clause-read : goal.returns-in_err-number-clause-read
returns-in_err-number-clause-read c = λ n is. absurd (none-some n (sym c.in_err-number.was ∙ c.read_number.ensures ∙ end_number c.args.line.now n is))

pub returns-then-number-gt-NUMBER_MAX-clause-read : goal.returns-then-number-gt-NUMBER_MAX-clause-read
returns-then-number-gt-NUMBER_MAX-clause-read c = λ n is.
    let same : c.in_ok-number.number ≡ n = same_Some _ _ (sym c.in_ok-number.was ∙ c.read_number.ensures ∙ end_number c.args.line.now n is) in
    let fits = is.fits in
    absurd (omega (arith, same, fits))

pub returns-then-is_text-clause-read : goal.returns-then-is_text-clause-read
returns-then-is_text-clause-read c = λ n is. sym c.in_ok-number.was ∙ c.read_number.ensures ∙ end_number c.args.line.now n is

pub returns-else-is_text-clause-read : goal.returns-else-is_text-clause-read
returns-else-is_text-clause-read c = λ n is.
    let same : c.in_ok-number.number ≡ n = same_Some _ _ (sym c.in_ok-number.was ∙ c.read_number.ensures ∙ end_number c.args.line.now n is) in
    let told : c.is_text.result ≡ true = c.is_text.ensures.1 (c.end_words.ensures.text ∙ ap end_text same ∙ sym is.text) in
    cc
