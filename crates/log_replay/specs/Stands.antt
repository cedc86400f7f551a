-- Which stream a Replay stands for.
use Rattle.std.specs.Prelude.{◌≡◌, ℕ, ◌+◌, ◌*◌, ◌==◌, nat_eq, List, [], ◌++◌, length, slice_set, Option, Some, None}
use Rattle.std.specs.Prelude.{Result, OnOk, IsErrOf, if◌then◌else◌}
use Rattle.std.specs.List.{list_any}
use Rattle.indexmap.specs.IndexMap.{get}
use Rattle.record_model.specs.State.{Write}
use Rattle.log_archive.specs.Accepted.{Stream, Unclosed, commits_in}
use Rattle.log_replay.specs.declared.ledger.Ledger.{Ledger}
use Rattle.log_replay.specs.declared.replay.Replay.{Replay}
use Rattle.log_replay.specs.declared.ledger.ReplayFault.{ReplayFault}
use Rattle.log_replay.specs.declared.ledger.ReplayFault.TheVariants.{BadStream}
use Rattle.log_replay.specs.Opened.{AreOpen}

-- The ledger of a database with so many pages stands for a stream before an LSN: it has the table that the records so
-- far leave, the number of commits, and the open transactions; and these nets were popped, and the others wait.
pub record StandsAt (pages lsn : ℕ) (s : Stream) (popped : List (List Write)) (l : Ledger) : Type 0 where
  pub size : length s.shown ≡ 32 * pages
  pub shown : l.table ≡ s.shown
  pub commits : l.commits ≡ commits_in s
  pub nets : s.nets ≡ popped ++ l.waiting.items
  pub opened : AreOpen lsn s.unclosed l.transactions

-- A transaction is put back into a ledger that has done this write last, and the table has what it writes.
pub record Puts (t : Unclosed) (write : Write) (old new : Ledger) : Type 0 where
  pub table : new.table ≡ slice_set old.table write.0 write.1
  pub opened : (txn : ℕ) → get nat_eq new.transactions.active txn
      ≡ (if t.begin == txn then Some t else get nat_eq old.transactions.active txn)
  pub writers : (number : ℕ) → get nat_eq new.transactions.writers number
      ≡ (if write.0 == number then Some t.begin else get nat_eq old.transactions.writers number)
  pub commits : new.commits ≡ old.commits
  pub waiting : new.waiting ≡ old.waiting

-- the net of a transaction that was taken out is handed out, and nobody has written its records any longer
pub record Closes (left net : List Write) (old new : Ledger) : Type 0 where
  pub is : net ≡ left
  pub table : new.table ≡ old.table
  pub opened : new.transactions.active ≡ old.transactions.active
  pub writers : (number : ℕ) → get nat_eq new.transactions.writers number
      ≡ (if list_any (λ write. write.0 == number) left then None else get nat_eq old.transactions.writers number)
  pub commits : new.commits ≡ old.commits
  pub waiting : new.waiting ≡ old.waiting

-- a Replay stands for a stream between two lines
pub record StandsFor (pages : ℕ) (s : Stream) (popped : List (List Write)) (r : Replay) : Type 0 where
  pub next : r.next ≡ s.next
  pub ledger : StandsAt pages (512 * s.next + 2) s popped r.ledger

-- How a call ends that hears more: it leaves the stream behind that, or there is none and the stream is bad. (It may
-- want memory, too.)
pub record Hears (result : Result (Unit {0}) ReplayFault) (after : Option Stream) (Leaves : Stream → Type 0)
    : Type 0 where
  pub heard : OnOk result ((now : Stream) × (after ≡ Some now) × Leaves now)
  pub bad : IsErrOf result BadStream → after ≡ None

-- no net waits
abbrev pub NoneWaits : Replay → Type 0
NoneWaits r = r.ledger.waiting.items ≡ []
