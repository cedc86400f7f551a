-- What a log has written to the records of the table, record by record.
use Rattle.std.specs.Prelude.{◌≡◌, ℕ, ◌==◌, Bool, false, nat_eq, List, Option, Some, None, option_map, is_some}
use Rattle.std.specs.Prelude.{if◌then◌else◌, ⊤}
use Rattle.indexmap.specs.IndexMap.{get}
use Rattle.indexmap.specs.IndexSet.{contains}
use Rattle.log_records.specs.Log.{Entry, txn_of, is_closed, before_of, after_of, last_on, first_update}
use Rattle.image_check.specs.declared.written.Written.{Written}
use Rattle.image_check.specs.declared.written.Writings.{Writings}

-- whether a value stood before an Update
abbrev pub had_value : Entry → Bool
had_value u = is_some (before_of u.rec)

-- Of these records of a log this one is the last on a number: its transaction is kept, and whether it leaves a value;
-- where the log leaves the transaction open, also whether a value stood before its first Update there, if it has one.
pub record IsLast (log records : List Entry) (number : ℕ) (e : Entry) (w : Written) : Type 0 where
  pub txn : w.txn ≡ txn_of e
  pub after : w.after ≡ is_some (after_of e.rec)
  pub before : is_closed log (txn_of e) ≡ false
      → w.before ≡ option_map had_value (first_update records (txn_of e) number)

-- the last one is kept, where there is one
abbrev pub KeepsLast : List Entry → List Entry → ℕ → Option Entry → Option Written → Type 0
KeepsLast log records number None None = ⊤
KeepsLast log records number None (Some w) = ⊥
KeepsLast log records number (Some e) None = ⊥
KeepsLast log records number (Some e) (Some w) = IsLast log records number e w

-- of these records of a log the last one on each number is kept, and which transactions they close
pub record AreWritten (log records : List Entry) (writings : Writings) : Type 0 where
  pub last : (number : ℕ) → KeepsLast log records number (last_on records number) (get nat_eq writings.last number)
  pub closed : (t : ℕ) → contains nat_eq writings.closed t ≡ is_closed records t

-- whether a value stood before a transaction's first Update on a number, where the last record there is its own
abbrev pub before_by : Option Written → ℕ → Option Bool
before_by None txn = None
before_by (Some w) txn = if w.txn == txn then w.before else None
