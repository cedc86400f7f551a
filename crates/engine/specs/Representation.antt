-- The database of an honest site, and the model's state.
use Rattle.std.specs.Prelude.{◌≡◌, ℕ, ◌+◌, ◌<◌, List, [], ◌∷◌, length, filter_map, Option, Some, None, option_map}
use Rattle.std.specs.Prelude.{IsTrue, ⊤}
use Rattle.std.specs.Prelude.{Bool, true, if◌then◌else◌}
use Rattle.site.specs.State.{State as Site}
use Rattle.record_model.specs.State.{Session, State, Write, session_at, kept_by_checkpoint}
use Rattle.record_model.specs.State as model
use Rattle.record_model.specs.declared.words.Command.{Command}
use Rattle.record_model.specs.Step.{Outcome, step, refusal, effect, answer, fills_page, making, with_session}
use Rattle.record_model.specs.Step.{having_written}
use Rattle.record_model.specs.Step.{having_marked, having_read}
use Rattle.record_model.specs.Touches.{command_touches, record_touches}
use Rattle.ring_machine.specs.Commands.{command_work, record_work}
use Rattle.record_model.specs.declared.words.Reply.{Reply}
use Rattle.record_model.specs.declared.words.Reply.TheVariants as reply
use Rattle.log_records.specs.Log.{Entry, entries_of, updates_in, is_loser, number_of}
use Rattle.log_laws.specs.Follow.{IsActive}
use Rattle.checkpoint.specs.declared.master.Master.{Master}
use Rattle.image_meaning.specs.Meaning.{master_of}
use Rattle.lock_table.specs.declared.lock.Lock.{Lock}
use Rattle.lock_table.specs.Locks as locks
use Rattle.txn_table.specs.declared.active.Active.{Active}
use Rattle.txn_table.specs.Entries.{entry_of}
use Rattle.txn_table.specs.Entries as entries
use Rattle.log_records.specs.Unfinished as unfinished
use Rattle.engine.specs.declared.engine.Engine.{Engine}
use Rattle.redo_undo.specs.Stores.{Represents}
use Rattle.engine.specs.PageTests.{FootprintsAre, tested, touches_by, work_by}

-- the record of each Update of these entries
abbrev pub updated : List Entry → List ℕ
updated entries = filter_map (λ u. number_of u.rec) (updates_in entries)

-- a session's transaction: it is open, and the session's writes are those of its Updates that stand; records are
-- counted from the oldest kept one on
pub record IsUnderWay (newest : Option Master) (kept : ℕ) (records : List Entry) (entry : Active)
    (session : Session) : Type 0 where
  pub is_active : IsActive (master_of newest) records entry.begin entry.last session.writes
  pub born : entry.born + kept ≡ session.born
  pub count : entry.writes ≡ length session.writes
  pub mark : entry.mark ≡ session.mark
  -- it has written the record of each Update, of those too that no longer stand
  pub wrote : session.wrote ≡ updated (entries_of entry.begin records)

-- a session is active in both or in neither
abbrev pub SessionIs : Option Master → ℕ → List Entry → Option Active → Option Session → Type 0
SessionIs newest kept records None None = ⊤
SessionIs newest kept records (Some entry) (Some session) = IsUnderWay newest kept records entry session
SessionIs newest kept records _ _ = ⊥

-- the active sessions are the unfinished transactions
pub record SessionsAre (newest : Option Master) (records : List Entry) (active : List Active) (s : State) : Type 0 where
  pub count : length s.sessions ≡ 8
  pub each : (n : ℕ) → SessionIs newest s.kept records (entry_of active n) (session_at s n)
  pub all : (t : ℕ) → IsTrue (is_loser records t) → (n : ℕ) × (entry : Active) × (entry_of active n ≡ Some entry)
      × (entry.begin ≡ t)
  -- what undo may take
  pub owes : unfinished.owed records ≡ entries.owed active
  pub differ : (n m : ℕ) (a b : Active) → entry_of active n ≡ Some a → entry_of active m ≡ Some b
      → a.begin ≡ b.begin → n ≡ m

-- the locks are the model's writes and reads
pub record LocksAre (held : List Lock) (s : State) : Type 0 where
  pub written : (n r : ℕ) → locks.has_written held n r ≡ model.has_written s n r
  pub reads : (n r : ℕ) → locks.has_read held n r ≡ model.has_read s n r

-- the counts; those of records begin with the oldest kept one, and pages can be full
pub record CountsAre (engine : Engine) (s : State) : Type 0 where
  pub commits : engine.commits ≡ s.commits
  pub made : engine.store.made + s.kept ≡ s.made
  pub cap : engine.cap ≡ s.cap
  pub fills : s.pages_fill ≡ true

-- Of an honest site: the database stands for this state.
pub record Matches (engine : Engine) (site : Site) (s : State) : Type 0 where
  pub honest : IsTrue site.honest
  pub newest : Option Master
  pub records : List Entry
  pub holds : Represents engine.store site newest records s.table s.commits
  pub counts : CountsAre engine s
  pub sessions : SessionsAre newest records engine.active s
  pub locks_are : LocksAre engine.locks s
  pub footprints_are : FootprintsAre engine.footprints s

-- what a command answers, and the state that it leaves
abbrev pub run : State → Command → Outcome
run s command = step s command []

-- a checkpoint lets the records go that no active session needs
abbrev pub checkpointed_if : Bool → State → State
checkpointed_if wanted s = record s { kept = if wanted then kept_by_checkpoint s else s.kept }

-- a session has made one write more
abbrev pub with_write : State → ℕ → Write → State
with_write s n write = making 1 (with_session s n (option_map (having_written write) (session_at s n)))

-- a session sets its mark, and goes back
abbrev pub with_mark : State → ℕ → State
with_mark s n = with_session s n (option_map having_marked (session_at s n))

-- a session has read a record
abbrev pub with_read : State → ℕ → ℕ → State
with_read s n number = with_session s n (option_map (having_read (number ∷ [])) (session_at s n))

-- a session has read records
abbrev pub with_reads : State → ℕ → List ℕ → State
with_reads s n numbers = with_session s n (option_map (having_read numbers) (session_at s n))

-- a command is refused: it changes nothing, and asks nothing of the cache and the log
abbrev pub IsRefusedWith : State → Command → Reply → Type 0
IsRefusedWith s command reply = (run s command ≡ record { after = s; reply = reply })
    × ((command_touches s command ≡ []) × (command_work s command ≡ []))

-- it is carried out, and no checkpoint comes first: it touches the pages of its records, and logs its own
abbrev pub IsCarriedOut : State → Command → Type 0
IsCarriedOut s command = (run s command ≡ record { after = effect s command; reply = answer s command [] })
    × ((command_touches s command ≡ record_touches s command) × (command_work s command ≡ record_work s command))

-- so it is in whatever state the database stands for
abbrev pub Refuses : Engine → Command → Reply → Type 0
Refuses engine command reply = (s : State) (site : Site) → Matches engine site s → IsRefusedWith s command reply

abbrev pub Accepts : Engine → Command → Type 0
Accepts engine command = (s : State) (site : Site) → Matches engine site s → IsCarriedOut s command

-- the test of its page is the last one, and no checkpoint comes first: that decides
abbrev pub IsTested : State → Command → Type 0
IsTested s command = (run s command ≡ tested s command (fills_page s command))
    × ((command_touches s command ≡ touches_by s command (fills_page s command))
    × (command_work s command ≡ work_by s command (fills_page s command)))

abbrev pub Tests : Engine → Command → Type 0
Tests engine command = (s : State) (site : Site) → Matches engine site s → IsTested s command

-- no test refuses it, whatever room there is
abbrev pub Passes : Engine → Command → Type 0
Passes engine command = (s : State) (site : Site) → Matches engine site s → refusal s command ≡ None

-- so many more log records can't be made
pub record IsFull (engine : Engine) (more : ℕ) (answered : Reply) : Type 0 where
  pub full_is : answered ≡ reply.Full engine.store.made (entries.owed engine.active) engine.cap
  pub no_room : engine.cap < engine.store.made + entries.owed engine.active + more
