-- What undoing a session's transaction leaves.
use Rattle.std.specs.Prelude.{◌≡◌, ◌≢◌, ℕ, ◌+◌, ◌-◌, false, List, length, take, drop, Option}
use Rattle.site.specs.State.{State}
use Rattle.record_model.specs.State.{Content, Write}
use Rattle.log_records.specs.Log.{Entry, is_loser, entries_of, updates_in}
use Rattle.log_records.specs.Unfinished.{left_open, owed}
use Rattle.log_laws.specs.Follow.{IsActive}
use Rattle.checkpoint.specs.declared.master.Master.{Master}
use Rattle.image_meaning.specs.Meaning.{master_of}
use Rattle.redo_undo.specs.declared.store.TransactionStore.{TransactionStore}
use Rattle.redo_laws.specs.Running.{History, settled}
use Rattle.redo_undo.specs.Stores.{Holds}

-- all other transactions are as they were
pub record ConcernsOnly (newest : Option Master) (txn : ℕ) (before now : List Entry) : Type 0 where
  pub under_way : (t last : ℕ) (writes : List Write) → t ≢ txn → IsActive (master_of newest) before t last writes
      → IsActive (master_of newest) now t last writes
  pub losers : (t : ℕ) → t ≢ txn → is_loser now t ≡ is_loser before t
  pub left : (t : ℕ) → t ≢ txn → left_open now t ≡ left_open before t
  pub entries : (t : ℕ) → t ≢ txn → entries_of t now ≡ entries_of t before

-- A transaction of so many writes is undone, and its End is logged. It owes nothing any more.
pub record RollsBackOver (store : TransactionStore) (site : State) (newest : Option Master) (records : List Entry)
    (history : History) (txn writes : ℕ) : Type 0 where
  pub log : List Entry
  pub concerns : ConcernsOnly newest txn records log
  pub holds : Holds store site newest log history
  pub closed : is_loser log txn ≡ false
  pub owes : owed log + (writes + 1) ≡ owed records

-- the same where no commit waits for its seal
abbrev pub RollsBack : TransactionStore → State → Option Master → List Entry → List Content → ℕ → ℕ → ℕ → Type 0
RollsBack store site newest records table commits txn writes =
    RollsBackOver store site newest records (settled table commits) txn writes

-- The last writes of a transaction that stand are undone, so many: it is under way with the others, the LSN of its last
-- record is this one, and it owes so much less. It has the Updates that it had.
pub record GoesBackOver (store : TransactionStore) (site : State) (newest : Option Master) (records : List Entry)
    (history : History) (txn count : ℕ) (writes : List Write) (last : ℕ) : Type 0 where
  pub log : List Entry
  pub concerns : ConcernsOnly newest txn records log
  pub holds : Holds store site newest log history
  pub under_way : IsActive (master_of newest) log txn last (take (length writes - count) writes)
  pub left : left_open log txn ≡ drop count (left_open records txn)
  pub updates : updates_in (entries_of txn log) ≡ updates_in (entries_of txn records)
  pub owes : owed log + count ≡ owed records

-- the same where no commit waits for its seal
abbrev pub GoesBack : TransactionStore → State → Option Master → List Entry → List Content → ℕ → ℕ → ℕ → List Write → ℕ
    → Type 0
GoesBack store site newest records table commits txn count writes last =
    GoesBackOver store site newest records (settled table commits) txn count writes last
