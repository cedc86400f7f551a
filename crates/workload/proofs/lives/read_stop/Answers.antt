use Rattle.workload.proofs.Words.{many_words}
use Rattle.workload.proofs.lives.read_stop.Goals as goal

pub returns-in-Some-split_word-2 : goal.returns-in-Some-split_word-2
returns-in-Some-split_word-2 c =
    many_words c.args.line.now c.in-Some.rest.now c.in-Some-split_word.rest.now c.in-Some-split_word-2.field-0.1.now
    c.in-Some.name.now c.in-Some-split_word.limit.now c.in-Some-split_word-2.field-0.0.now
    c.in-Some.ensures.words c.in-Some-split_word.ensures.words c.in-Some-split_word-2.ensures.words
