use Rattle.std.proofs.Common.{◌≡◌, ◌∙◌, sym}
use Rattle.command_line.specs.declared.request.Unread.TheVariants.{Memory, Words}
use Rattle.command_line.specs.Words.{words_of}
use Rattle.command_line.proofs.ClapLaws.{dash_is, no_dash, right_undashed}
use Rattle.command_line.proofs.request.read_words.Goals as goal

pub returns-then-has_dash-clause-unread : goal.returns-then-has_dash-clause-unread
returns-then-has_dash-clause-unread c e right = right_undashed (words_of c.args.words.now) right (dash_is c.args.words.now c.has_dash.result c.has_dash.ensures ∙ c.if-has_dash.true)

pub parse-requires : goal.parse-requires
parse-requires c = no_dash c.args.words.now c.has_dash.result c.has_dash.ensures c.if-has_dash.false

pub returns-in-Ok-clause-dashed : goal.returns-in-Ok-clause-dashed
returns-in-Ok-clause-dashed c dash = absurd (no_dash c.args.words.now c.has_dash.result c.has_dash.ensures c.if-has_dash.false dash)

pub returns-clause-dashed : goal.returns-clause-dashed
returns-clause-dashed c dash = absurd (no_dash c.args.words.now c.has_dash.result c.has_dash.ensures c.if-has_dash.false dash)

pub returns-clause-unread : goal.returns-clause-unread
returns-clause-unread c is right =
    let memory : c.unread_by.result ≡ Memory = c.unread_by.ensures.1 (c.kind.ensures ∙ c.in-Err.ensures.right right) in
    let bad : Words ≡ Memory = sym is ∙ memory in
    cc
