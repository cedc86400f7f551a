-- The unfinished transactions of a log, heard record by record.
use Rattle.std.specs.Prelude.{◌≡◌, ◌⊎◌, ℕ, ◌+◌, ◌*◌, ◌≤◌, nat_eq, true, false, List, [], ◌∷◌, drop, Option, Some}
use Rattle.std.specs.Prelude.{None, option_map}
use Rattle.std.specs.Prelude.{if◌then◌else◌}
use Rattle.indexmap.specs.IndexMap.{get}
use Rattle.log_records.specs.declared.log_record.LogRecord.{LogRecord}
use Rattle.log_records.specs.declared.log_record.LogRecord.TheVariants.{Begin, Update, Clr, Commit, End}
use Rattle.log_records.specs.Log.{Entry, is_of}
use Rattle.log_archive.specs.Accepted.{Unclosed}
use Rattle.log_replay.specs.Opened.{begun, has_written, written}
use Rattle.log_replay.specs.declared.transactions.Transactions.{Transactions}

-- a transaction behind one more record of its own; of one whose Begin wasn't heard nothing is known
abbrev pub heard_by : ℕ → LogRecord → Option Unclosed → Option Unclosed
heard_by lsn Begin o = Some (begun lsn)
heard_by lsn (Update txn prev page slot before after) o = option_map (λ t. written lsn (32 * page + slot, after)
    (record { prev = prev; page = page; slot = slot; before = before } ∷ t.standing) t) o
heard_by lsn (Clr txn prev undo_next page slot after) o =
    option_map (λ t. written lsn (32 * page + slot, after) (drop 1 t.standing) t) o
heard_by lsn (Commit txn number) o = None
heard_by lsn (End txn) o = None

abbrev pub heard_one : ℕ → Entry → Option Unclosed → Option Unclosed
heard_one t e o = if is_of t e then heard_by e.lsn e.rec o else o

-- a transaction behind more records
abbrev pub heard : ℕ → Option Unclosed → List Entry → Option Unclosed
heard t o [] = o
heard t o (e ∷ log) = heard t (heard_one t e o) log

-- These are the transactions of a log that are kept.
abbrev pub HasHeard : List Entry → Transactions → Type 0
HasHeard log kept = (t : ℕ) → get nat_eq kept.active t ≡ heard t None log

-- who has written a record is one of these and has left something there; where nobody has, none of them has
abbrev pub IsWriter : (ℕ → Option Unclosed) → ℕ → Option ℕ → Type 0
IsWriter known number None = (t : ℕ) (u : Unclosed) → known t ≡ Some u → has_written number u ≡ false
IsWriter known number (Some txn) = (u : Unclosed) × (known txn ≡ Some u) × (has_written number u ≡ true)

abbrev pub HaveClaimed : Transactions → Type 0
HaveClaimed kept = (number : ℕ) → IsWriter (λ t. get nat_eq kept.active t) number (get nat_eq kept.writers number)

-- a record that no page of any database has
abbrev pub IsBeyond : LogRecord → Type 0
IsBeyond (Update txn prev page slot before after) = (65536 ≤ page) ⊎ (32 ≤ slot)
IsBeyond (Clr txn prev undo_next page slot after) = (65536 ≤ page) ⊎ (32 ≤ slot)
IsBeyond _ = ⊥
