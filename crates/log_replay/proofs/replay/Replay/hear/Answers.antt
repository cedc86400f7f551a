use Rattle.log_replay.proofs.Names.{◌≡◌, ℕ, List, sym, ap, ◌∙◌, none-some, IsBlockLine}
use Rattle.log_replay.proofs.Replays.{end_accepted, end_bad, another_number, block_accepted, block_refused}
use Rattle.log_replay.proofs.replay.Replay.hear.Goals as goal

pub returns-in_default-clause-accepted : goal.returns-in_default-clause-accepted
returns-in_default-clause-accepted c = λ pages s popped stands. end_accepted pages s popped c.args.self.now c.args.self.now stands c.args.line.now c.end.result c.end.ensures.ok

pub returns-in_default-clause-bad : goal.returns-in_default-clause-bad
returns-in_default-clause-bad c = λ pages s popped stands.
    end_bad pages s popped c.args.self.now c.args.self.now stands c.args.line.now c.end.result (λ n content is. none-some _ (c.in_default.ensures.read n content is)) c.end.ensures.bad

pub returns-then-block-self-clause-bad : goal.returns-then-block-self-clause-bad
returns-then-block-self-clause-bad c = λ pages s popped stands is.
    another_number pages s popped c.args.self.now c.args.self.now stands c.args.line.now c.in-Some.block c.in-Some.ensures.form c.in-Some.ensures.read c.if-block-self.true

pub returns-clause-accepted : goal.returns-clause-accepted
returns-clause-accepted c = λ pages s popped stands.
    block_accepted pages s popped c.args.self.now c.block.new.self stands c.args.line.now c.in-Some.block c.in-Some.ensures.form c.in-Some.ensures.read c.block.result c.if-block-self.false
    c.block.ensures.form (λ records block. c.block.ensures.block pages s popped records stands block)

pub returns-clause-bad : goal.returns-clause-bad
returns-clause-bad c = λ pages s popped stands.
    block_refused pages s popped c.args.self.now c.block.new.self stands c.args.line.now c.in-Some.block c.in-Some.ensures.form c.in-Some.ensures.read c.block.result
    (λ records block. c.block.ensures.block pages s popped records stands block)
