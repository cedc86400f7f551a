-- The open transactions as they are kept.
use Rattle.std.specs.Prelude.{◌≡◌, ℕ, ◌+◌, ◌*◌, ◌<◌, ◌==◌, Bool, true, false, not, ◌&&◌, nat_eq, List, [], ◌∷◌, find}
use Rattle.std.specs.Prelude.{Option, Some, None, if◌then◌else◌, ⊤}
use Rattle.std.specs.List.{AllByRecursion, list_any}
use Rattle.indexmap.specs.IndexMap.{get}
use Rattle.record_model.specs.State.{Content, Write}
use Rattle.log_archive.specs.Accepted.{Standing, Unclosed, is_taken, is_unclosed, put_in, same_content}
use Rattle.log_replay.specs.declared.transactions.Transactions.{Transactions}

-- a transaction behind its Begin
abbrev pub begun : ℕ → Unclosed
begun lsn = record { begin = lsn; last = lsn; standing = []; net = [] }

-- a transaction with one more record, a write, and these standing Updates
abbrev pub written : ℕ → Write → List Standing → Unclosed → Unclosed
written lsn write standing t =
    record { begin = t.begin; last = lsn; standing = standing; net = put_in write t.net }

abbrev pub number_of : Standing → ℕ
number_of u = 32 * u.page + u.slot

-- the number of the last standing Update, where a CLR of this form compensates it
abbrev pub compensated : ℕ → ℕ → ℕ → Content → List Standing → Option ℕ
compensated undo_next page slot after [] = None
compensated undo_next page slot after (u ∷ standing) =
    if (undo_next == u.prev) && (page == u.page) && (slot == u.slot) && same_content after u.before
    then Some (32 * page + slot)
    else None

-- the transaction has left something on a record
abbrev pub has_written : ℕ → Unclosed → Bool
has_written number t = list_any (λ write. write.0 == number) t.net

-- on the numbers of its standing Updates it has left something
abbrev pub HoldsItsOwn : Unclosed → Type 0
HoldsItsOwn t = AllByRecursion (λ u. has_written (number_of u) t ≡ true) t.standing

-- each transaction once
abbrev pub EachOnce : List Unclosed → Type 0
EachOnce [] = ⊤
EachOnce (t ∷ ts) = (find (is_unclosed t.begin) ts ≡ None) × EachOnce ts

-- the writer of a record is another transaction
abbrev pub is_others : ℕ → Option ℕ → Bool
is_others txn None = false
is_others txn (Some writer) = not (writer == txn)

-- These are the open transactions before an LSN: each is kept under its Begin, and the writer of a record is the one
-- that has written it.
pub record AreOpen (lsn : ℕ) (ts : List Unclosed) (kept : Transactions) : Type 0 where
  pub known : (txn : ℕ) → get nat_eq kept.active txn ≡ find (is_unclosed txn) ts
  pub taken : (txn number : ℕ) → is_taken txn number ts ≡ is_others txn (get nat_eq kept.writers number)
  pub early : AllByRecursion (λ t. t.begin < lsn) ts
  pub apart : EachOnce ts
  pub own : AllByRecursion HoldsItsOwn ts
