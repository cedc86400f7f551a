use Rattle.std.proofs.Common.{rules, ◌≡◌, ◌∙◌, ap, sym}
use Rattle.std.specs.Prelude.{decimal}
use Rattle.std.proofs.lemmas.Fmt.{parse-decimal}
use Rattle.command_line.proofs.words.number_in.Goals as goal

pub returns-in-Err-clause-none : goal.returns-in-Err-clause-none
returns-in-Err-clause-none c n few is =
    let parsed = parse-decimal 64 n _ c.parse.result few few is c.parse.ensures.value.0 in
    absurd cc

pub returns-then-not-writes-clause-none : goal.returns-then-not-writes-clause-none
returns-then-not-writes-clause-none c n few is =
    let parsed = parse-decimal 64 n _ c.parse.result few few is c.parse.ensures.value.0 in
    let same : c.in-Ok.number ≡ n = cc in
    let bytes : c.as_bytes.result.now ≡ c.args.word.now = search rules in
    let told = c.writes.ensures.1 (bytes ∙ is ∙ ap decimal (sym same)) in
    let untold = c.if-not-writes.true in
    absurd cc
