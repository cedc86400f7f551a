-- The records that unfinished transactions have written, record by record.
use Rattle.std.specs.Prelude.{◌≡◌, ℕ, ◌==◌, nat_eq, Bool, false, not, ◌&&◌, List, filter, Option, Some, None}
use Rattle.std.specs.Prelude.{option_map}
use Rattle.std.specs.List.{list_any}
use Rattle.indexmap.specs.IndexMap.{IndexMap, get}
use Rattle.log_records.specs.Log.{Entry, txn_of, is_update, is_closed, last_on}
use Rattle.log_records.specs.Unfinished.{losers}

-- an Update of a transaction that a log leaves open
abbrev pub holds : List Entry → Entry → Bool
holds log u = is_update u.rec && not (is_closed log (txn_of u))

-- of a transaction: a log closes it, or its Begin is there and it is unfinished
abbrev pub IsListed : List Entry → ℕ → Type 0
IsListed log t = is_closed log t ≡ not (list_any (λ n. n == t) (losers log))

-- of these records of a log: for each number the transaction of the last Update on it that the log leaves open
pub record AreHeld {S : Type 0} (log records : List Entry) (held : IndexMap ℕ ℕ S) : Type 0 where
  pub each : (number : ℕ) → get nat_eq held number ≡ option_map txn_of (last_on (filter (holds log) records) number)

-- whether a transaction isn't the one that holds a number, if one does
abbrev pub is_others : Option ℕ → ℕ → Bool
is_others None txn = false
is_others (Some holder) txn = not (holder == txn)

-- whether a record of a transaction is on a number that another one holds
abbrev pub clashes_by : (ℕ → Option ℕ) → Option ℕ → ℕ → Bool
clashes_by held None txn = false
clashes_by held (Some number) txn = is_others (held number) txn
