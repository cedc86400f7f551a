use Rattle.log_store.proofs.Names.{arith}
use Rattle.log_store.proofs.BlockLaws.{blocks_from}
use Rattle.log_store.proofs.store.LogStore.keep.Goals as goal

pub returns-clause-holds : goal.returns-clause-holds
returns-clause-holds c site log going fits holds =
    let below = c.requires.below in
    let next = holds.blocks.next in
    let hi = fits.hi in
    record { kept = omega arith; blocks = blocks_from _ log.first c.args.block log.blocks site.image holds.blocks (omega (arith, below, next, hi)); tail = holds.tail }
