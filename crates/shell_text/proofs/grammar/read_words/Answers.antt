use Rattle.std.proofs.Common.{sym}
use Rattle.shell_text.proofs.Cuts.{too_many}
use Rattle.shell_text.proofs.grammar.read_words.Goals as goal

pub returns-in-Some-split_word-3 : goal.returns-in-Some-split_word-3
returns-in-Some-split_word-3 c =
    sym (too_many c.args.line.now c.in-Some.rest.now c.in-Some-split_word.rest.now c.in-Some-split_word-2.rest.now c.in-Some-split_word-3.field-0.1.now
    c.in-Some.name.now c.in-Some-split_word.first.now c.in-Some-split_word-2.second.now c.in-Some-split_word-3.field-0.0.now
    c.in-Some.ensures.words c.in-Some-split_word.ensures.words c.in-Some-split_word-2.ensures.words c.in-Some-split_word-3.ensures.words)
