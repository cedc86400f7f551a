-- The table of active transactions.
use Rattle.std.specs.Prelude.{◌≡◌, ℕ, List, map, reverse, Some, None}
use Rattle.analysis.specs.declared.table.Transaction.{Transaction}
use Rattle.analysis.specs.declared.table.Table.{Table}
use Rattle.analysis.specs.Open.{Open, found_in, Changes, Replaces, TakesOut}

abbrev pub open_of : ℕ × Transaction → Open
open_of e = record { txn = e.0; last = e.1.last; updates = reverse e.1.updates.items }

abbrev pub listed : Table → List Open
listed table = map open_of table.transactions.entries

-- what was said of a transaction is changed, and of others the same is said
pub record Becomes (old new : List Open) (t : ℕ) (after : Open → Open) : Type 0 where
  pub replaces : Replaces old new t after
  pub there : found_in old t ≡ Some replaces.was
  pub changes : Changes old new t (Some (after replaces.was))

-- nothing is said of a transaction any more, and of others the same
pub record Closes (old new : List Open) (t : ℕ) : Type 0 where
  pub takes : TakesOut old new t
  pub there : found_in old t ≡ Some takes.was
  pub changes : Changes old new t None
