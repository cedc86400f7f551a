use Rattle.log_replay.proofs.Names.{◌+◌, refl, Replay}
use Rattle.log_replay.proofs.Ledgers.{is_bad}
use Rattle.log_replay.proofs.Replays.{stands_so, block_bad, block_heard}
use Rattle.log_replay.proofs.replay.Replay.block.Goals as goal

pub returns-in_default-clause-block : goal.returns-in_default-clause-block
returns-in_default-clause-block c = λ pages s popped records stands block. is_bad (absurd (c.in_default.ensures.bad records block))

pub returns-in-Err-clause-block : goal.returns-in-Err-clause-block
returns-in-Err-clause-block c = λ pages s popped records stands block.
    let old = c.args.self.now in
    let new : Replay = record { next = old.next; ledger = c.hear_block.new.self } in
    let hears = c.in-Err.ensures pages s popped records (stands_so pages s popped old new stands records) block in
    record { heard = tt; bad = λ is. block_bad pages s popped old new stands records _ hears is }

pub returns-clause-block : goal.returns-clause-block
returns-clause-block c = λ pages s popped records stands block.
    let old = c.args.self.now in
    let new : Replay = record { next = old.next + 1; ledger = c.hear_block.new.self } in
    let hears = c.in-Ok-hear_block.ensures pages s popped records (stands_so pages s popped old new stands records) block in
    block_heard pages s popped old new stands records hears refl

pub returns-clause-form : goal.returns-clause-form
returns-clause-form c = (c.in-Ok.ensures.found.0, c.in-Ok.ensures.found.1)
