use Rattle.std.proofs.Common.{nat_eq, sym}
use Rattle.indexmap.specs.IndexMap.{get, keys}
use Rattle.archive_base.proofs.Claims.{claims_all, claims_more, claims_none}
use Rattle.archive_base.proofs.opening.writers_of.Goals as goal

pub loop-txn-preserved-in-Continue-1 : goal.loop-txn-preserved-in-Continue-1
loop-txn-preserved-in-Continue-1 c =
    claims_more (λ t. get nat_eq c.args.active.now t) (keys c.args.active.now) c.loop-txn.txn-iterator (λ n. get nat_eq c.loop-txn.writers n) (λ n. get nat_eq c.claim.new.writers n)
    c.in-Some.txn.now c.in-Some-get.transaction.now c.next.new.self c.in-Some.ensures.steps (sym c.in-Some-get.ensures.value) c.in_ok-claim.ensures c.loop-txn.invariant

pub loop-txn-preserved : goal.loop-txn-preserved
loop-txn-preserved c =
    claims_none (λ t. get nat_eq c.args.active.now t) (keys c.args.active.now) c.loop-txn.txn-iterator (λ n. get nat_eq c.loop-txn.writers n)
    c.in-Some.txn.now c.next.new.self c.in-Some.ensures.steps (sym c.in_default.ensures.value) c.loop-txn.invariant

pub returns : goal.returns
returns c = λ begin number.
    claims_all c.args.active.now.entries c.loop-txn.txn-iterator (λ n. get nat_eq c.loop-txn.writers n) c.in-None.ensures.steps.0 c.loop-txn.invariant begin number
