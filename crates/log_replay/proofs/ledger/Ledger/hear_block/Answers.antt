use Rattle.log_replay.proofs.Names.{◌≡◌, ◌+◌, ◌*◌, ◌<◌, ℕ, refl, sym, ap, ◌∙◌, arith, Err, some_octet, used_low}
use Rattle.log_replay.proofs.Blocks.{all_left, same_end, some_spelled, heard_more, heard_bad, heard_all}
use Rattle.log_replay.proofs.Ledgers.{heard, is_bad, stands_later}
use Rattle.log_replay.proofs.ledger.Ledger.hear_block.Goals as goal

pub loop-at-init : goal.loop-at-init
loop-at-init c =
    let own = c.requires.block in
    let low = used_low own.0 own.1.are_block in (
      let end = own.2 in omega (arith, low, end),
      λ pages s popped records stands block. record {
        left = records;
        are_left = all_left c.args.content.now c.args.used records block (own.2 ∙ same_end c.args.content.now own.0 records own.1 block);
        now = s;
        leads = refl;
        stands = stands;
      },
    )

pub read_record-requires-clause-inside : goal.read_record-requires-clause-inside
read_record-requires-clause-inside c =
    let room = c.requires.block.1.are_block.room in
    let end = c.requires.block.2 in
    let size = c.requires.size in
    omega (arith, room, end, size)

pub loop-at-smaller : goal.loop-at-smaller
loop-at-smaller c =
    let found = c.in-Ok.ensures.found in
    omega (arith, some_octet c.in-Ok.rec, found.length_is, found.inside, c.loop-at-test.true)

pub returns-in_default : goal.returns-in_default
returns-in_default c = λ pages s popped records stands block.
    let h = c.loop-at.invariant.1 pages s popped records stands block in
    is_bad (absurd (some_spelled c.args.content.now c.args.used c.loop-at.at h.left h.are_left c.loop-at-test.true c.in_default.ensures.bad))

pub returns-in-Err : goal.returns-in-Err
returns-in-Err c = λ pages s popped records stands block.
    let h = c.loop-at.invariant.1 pages s popped records stands block in
    let found = c.in-Ok.ensures.found in
    let later : 512 * c.args.number + c.loop-at.at < 512 * c.args.number + c.in-Ok.end = let is = found.length_is in omega (arith, is, some_octet c.in-Ok.rec) in
    let one = c.in-Err.ensures pages (512 * c.args.number + c.in-Ok.end) h.now popped later h.stands in
    record { heard = tt; bad = λ is. heard_bad c.args.content.now c.args.used c.loop-at.at (512 * c.args.number) pages s popped records c.loop-at.self c.hear.new.self h c.loop-at-test.true c.in-Ok.rec c.in-Ok.end found (one.bad is) }

pub loop-at-preserved : goal.loop-at-preserved
loop-at-preserved c =
    let found = c.in-Ok.ensures.found in (
      found.inside,
      λ pages s popped records stands block.
          let h = c.loop-at.invariant.1 pages s popped records stands block in
          let later : 512 * c.args.number + c.loop-at.at < 512 * c.args.number + c.in-Ok.end = let is = found.length_is in omega (arith, is, some_octet c.in-Ok.rec) in
          let one = c.in-Ok-hear.ensures pages (512 * c.args.number + c.in-Ok.end) h.now popped later h.stands in
          heard_more c.args.content.now c.args.used c.loop-at.at (512 * c.args.number) pages s popped records c.loop-at.self c.hear.new.self h c.loop-at-test.true c.in-Ok.rec c.in-Ok.end found one.heard.0 one.heard.1 one.heard.2,
    )

pub returns : goal.returns
returns c = λ pages s popped records stands block.
    let h = c.loop-at.invariant.1 pages s popped records stands block in
    let own = c.requires.block in
    let low = c.loop-at.invariant.0 in
    let room = own.1.are_block.room in
    let end = own.2 in
    heard h.now (heard_all c.args.content.now c.args.used c.loop-at.at (512 * c.args.number) pages s popped records c.loop-at.self c.loop-at.self h (omega (arith, c.loop-at-test.false)))
    (stands_later pages (512 * c.args.number + c.loop-at.at) (512 * (c.args.number + 1) + 2) h.now popped c.loop-at.self (omega (arith, low, room, end)) h.stands)
