use Rattle.std.proofs.Common.{nat_eq}
use Rattle.archive_base.proofs.Claims.{ClaimsSo}
use Rattle.indexmap.specs.IndexMap.{get, keys}
use Rattle.archive_base.proofs.opening.writers_of.Given as goal

abbrev pub invariant-loop-txn : goal.invariant-loop-txn
invariant-loop-txn l = ClaimsSo (λ t. get nat_eq l.active t) (keys l.active) l.txn-iterator (λ n. get nat_eq l.writers n)
