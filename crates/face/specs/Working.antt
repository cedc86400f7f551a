-- What comes of a run before its fault line, by the number of lines that were heard.
use Rattle.std.specs.Prelude.{◌≡◌, ◌≢◌, ℕ, ◌+◌, ◌-◌, ◌≤◌, ◌++◌, Bool, true, false, List, [], length, take, Option}
use Rattle.std.specs.Prelude.{Result, Err, IfErr, IsErrOf, OnOk, ⊤}
use Rattle.site.specs.State.{State as Site, Snapshot, Image, MayLeave, now_of, no_loose}
use Rattle.site.specs.Moments.{EachMoment, LeavesOnly}
use Rattle.std.specs.List.{AllByRecursion, list_any}
use Rattle.site.specs.declared.outside.Take.{Take}
use Rattle.site.specs.declared.outside.Dev.{Dev}
use Rattle.site.specs.declared.outside.Stop.TheVariants.{Worn}
use Rattle.page_store.specs.Costs.{CallsForUnits}
use Rattle.record_model.specs.Run.{commit_marks, commits_among, is_quit}
use Rattle.record_model.specs.Touches.{CacheOp}
use Rattle.log_records.specs.declared.log_record.LogRecord.{LogRecord}
use Rattle.checkpoint.specs.declared.master.Master.{Master}
use Rattle.front_end.specs.declared.halt.Halt.{Halt}
use Rattle.front_end.specs.declared.halt.Halt.TheVariants.{Stop, Output, Input, Limit}
use Rattle.front_end.specs.Lines.{HeardAll, answered_of, commands_of, limit}
use Rattle.face.specs.Done.{HasDone, TellsDone}
use Rattle.face.specs.RunMeaning.{AsksNoMore, HasBegun, IsLeft, IsWhole, LeavesStaged}
use Rattle.face.specs.RunMeaning.{ListsTheMachine, SkipsNoNumber, StandsAfter, WritesAsTold, first_texts}
use Rattle.face.specs.RunMeaning.{log_reads_by_turns, texts, works_by}
use Rattle.face.specs.Run.{Run, first_lines, turns_of}
use Rattle.front_end.specs.Texts.{status_of}
use Rattle.face.specs.Waiting.{NobodyWaits}
use Rattle.face.specs.Worn.{WearsFirst, WearsNone, WearsNoneBefore}

-- what a run over this image has asked once it has answered so many lines
abbrev pub asked_after : Run → Option Master → Image → List (List LogRecord) → ℕ → List CacheOp
asked_after run newest image blocks lines = works_by run (turns_of (first_lines run lines)) newest image blocks

-- and how often it may have read the log by then
abbrev pub log_reads_after : Run → Option Master → List (List LogRecord) → ℕ → ℕ
log_reads_after run newest blocks lines = log_reads_by_turns run (turns_of (first_lines run lines)) newest blocks

-- where so many texts were told whole, the devices stand for the table after some number of commits that this allows
abbrev pub StandsNear : Run → ℕ → Image → Type 0
StandsNear run whole image = (k : ℕ) × (commits_among (whole - 1) (commit_marks (turns_of run)) ≤ k)
    × (k ≤ commits_among whole (commit_marks (turns_of run))) × StandsAfter run k image

-- so many texts were told, and the devices may be left as near to them
pub record IsBetween (run : Run) (old now : Site) : Type 0 where
  pub whole : ℕ
  pub few : whole ≤ length (texts run)
  pub told : now.told ≡ old.told ++ first_texts run whole
  pub stands : (s : Snapshot) → MayLeave (now_of now) s → StandsNear run whole s.image

-- These octets were taken. `ended` is whether a take has answered that the input ended. So many of their lines were
-- heard, which are the first ones of all lines.
pub record HasHeard (heard : ℕ) (octets : List ℕ) (ended : Bool) (old now : Site) : Type 0 where
  pub taken : old.input.left ≡ octets ++ now.input.left
  pub end : ended ≡ true → now.input.left ≡ []
  pub enough : heard ≤ length (answered_of ended octets)
  pub same : take heard (commands_of ended octets) ≡ take heard (commands_of true old.input.left)

-- all lines that stand whole in the first octets up to the limit were heard, and their replies told
pub record HasTakenAll (run : Run) (heard : ℕ) (octets : List ℕ) (old now : Site) : Type 0 where
  pub count : length (answered_of false (take limit octets)) ≡ heard
  pub no_quit : list_any is_quit (commands_of false (take limit octets)) ≡ false
  pub told : now.told ≡ old.told ++ first_texts run (heard + 1)

-- where taking was what failed
abbrev pub StopsTaking : Halt → Run → ℕ → List ℕ → Site → Site → Type 0
StopsTaking Input run heard octets old now = HasTakenAll run heard octets old now
StopsTaking Limit run heard octets old now = HasTakenAll run heard octets old now × (length octets ≡ limit + 1)
StopsTaking _ run heard octets old now = ⊤

-- taking was what failed
abbrev pub TakingFails : {T : Type 0} → Result T Halt → Type 0
TakingFails (Err Input) = ⊤
TakingFails (Err Limit) = ⊤
TakingFails _ = ⊥

-- a run that stops, of which so many lines were heard, before its fault line
pub record Stops (run : Run) (heard : ℕ) (old new : Site) (halt : Halt) : Type 0 where
  pub any_moment : LeavesOnly old new (IsLeft (first_lines run heard) old.told [])
  pub between : halt ≢ Output → IsBetween (first_lines run heard) old new
  pub quiet : status_of halt ≢ 3 → new.loose ≡ no_loose

-- When input was asked for no more lines than these stood whole in what was heard.
abbrev pub IsEarly : ℕ → Site → Take → Type 0
IsEarly lines old t = (heard : ℕ) → t.heard ≡ old.input.heard + heard →
    length (answered_of false (take heard old.input.left)) ≤ lines

-- nobody waits while so many lines are answered, and each octet that isn't left any more was heard
pub record AnswersFirst (run : Run) (lines : ℕ) (old now : Site) : Type 0 where
  pub waits : NobodyWaits run old now
  pub early : AllByRecursion (IsEarly lines old) waits.takes
  pub count : now.input.heard + length now.input.left ≡ old.input.heard + length old.input.left

-- What a run that ends so asks of the devices. A device is worn only where the first ring that is appended to at its
-- end lies there, and at Ok there is none; then its work is done, and the calls that write and sync are exactly those
-- of its units and of the frames that it staged, with at most one tell an octet. No ring number is skipped on the log's
-- device.
pub record Demands {T : Type 0} (pool : ℕ) (run : Run) (old new : Site) (result : Result T Halt) : Type 0 where
  pub worn : (dev : Dev) → IsErrOf result (Stop (Worn dev)) → WearsFirst pool run dev old.image
  pub room : OnOk result (WearsNone pool run old.image)
  pub done : OnOk result (HasDone pool run old.image new.image)
  pub staged : OnOk result (LeavesStaged pool run old new)
  pub calls : OnOk result (CallsForUnits run.geometry old new)
  pub numbers : SkipsNoNumber run old new
  pub reads : AsksNoMore pool run old new

-- what comes of a run before its fault line
pub record RunOutcome {T : Type 0} (pool : ℕ) (run : Run) (old new : Site) (result : Result T Halt) : Type 0 where
  pub heard : ℕ
  pub octets : List ℕ
  pub ended : Bool
  pub has_heard : HasHeard heard octets ended old new
  pub stops : IfErr result (λ halt. Stops run heard old new halt × StopsTaking halt run heard octets old new)
  pub begun : HasBegun run heard [] old new
  pub done : OnOk result (HeardAll ended octets × (length (answered_of ended octets) ≡ heard)
      × LeavesOnly old new (IsLeft (first_lines run heard) old.told []) × IsWhole (first_lines run heard) old new
      × (new.loose ≡ no_loose))
  pub demands : Demands pool (first_lines run heard) old new result
  pub earlier : WearsNoneBefore pool run heard old.image
  pub taking : TakingFails result → WearsNone pool (first_lines run heard) old.image
  pub listed : ListsTheMachine pool (first_lines run heard) old.image
  pub written : WritesAsTold pool run heard old new
  pub tells : EachMoment old new (TellsDone pool run heard [] old)
  pub answers : AnswersFirst run heard old new
