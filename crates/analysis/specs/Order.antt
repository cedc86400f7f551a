-- All Updates that remain of active transactions, in the order of their LSNs.
use Rattle.std.specs.Prelude.{◌≡◌, ℕ, ◌<◌, ◌==◌, Bool, false, List, [], ◌∷◌, Option, Some, None}
use Rattle.std.specs.BTreeMap.{get}
use Rattle.std.specs.List.{list_any}
use Rattle.std.specs.Ordering.{nat_cmp}
use Rattle.analysis.specs.declared.order.Order.{Order}
use Rattle.analysis.specs.Open.{Open, left_in}

-- the first of these numbers, where there is one, is below a number
abbrev pub BeginBelow : ℕ → List ℕ → Type 0
BeginBelow n [] = Unit {0}
BeginBelow n (u ∷ us) = u < n

-- numbers descend
abbrev pub Descend : List ℕ → Type 0
Descend [] = Unit {0}
Descend (u ∷ us) = BeginBelow u us × Descend us

-- what stands at an LSN is of a transaction
abbrev pub is_of : Option ℕ → ℕ → Bool
is_of None t = false
is_of (Some s) t = s == t

abbrev pub has_at : Order → ℕ → ℕ → Bool
has_at order t lsn = is_of (get nat_cmp order.updates lsn) t

-- An order has the Updates that remain of each transaction, and no others. Those of a transaction descend.
pub record IsOrder (order : Order) (table : List Open) : Type 0 where
  pub has : (t lsn : ℕ) → has_at order t lsn ≡ list_any (λ u. u == lsn) (left_in table t)
  pub descend : (t : ℕ) → Descend (left_in table t)
